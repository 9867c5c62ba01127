-- What one worker sends by the columns that come to it, and workers that exchange what they send.
use Rattle.std.specs.Prelude.{◌≡◌, ℕ, zero, suc, ◌<◌, List, [], ◌∷◌, map, length, Option, Some, None, true, false, slice_get}
use Rattle.std.specs.List.{AllByRecursion, range_with_len}
use Rattle.superstep_machine.specs.Machine.{Machine, row, phases, run}

module _ {S M O : Type 0} where
  -- the rows that worker w of p sends from state s, where these columns come to it
  abbrev pub rows_by : Machine S M O → ℕ → ℕ → S → List (List M) → List (List M)
  rows_by b p w s [] = []
  rows_by b p w s (c ∷ cs) = row b p w s ∷ rows_by b p w (b.next w s c) cs

  -- the state in which they leave it
  abbrev pub end_by : Machine S M O → ℕ → S → List (List M) → S
  end_by b w s [] = s
  end_by b w s (c ∷ cs) = end_by b w (b.next w s c) cs

  -- this holds of its state before each exchange
  abbrev pub HoldsBefore : Machine S M O → (S → Type 0) → ℕ → S → List (List M) → Type 0
  HoldsBefore b P w s [] = Unit {0}
  HoldsBefore b P w s (c ∷ cs) = P s × HoldsBefore b P w (b.next w s c) cs

  -- its run wasn't over before the last of them
  abbrev pub IsGoing : Machine S M O → ℕ → S → List (List M) → Type 0
  IsGoing b = HoldsBefore b (λ s. b.over s ≡ false)

  -- The history of a whole run of worker w: from state s, by these columns, it sent the rows, and its run was over in the last state.
  pub record IsPlayed (b : Machine S M O) (p w : ℕ) (s : S) (columns rows : List (List M)) (last : S) : Type 0 where
    pub sent : rows ≡ rows_by b p w s columns
    pub end : last ≡ end_by b w s columns
    pub going : IsGoing b w s columns
    pub over : b.over last ≡ true

  -- ---- all workers

  -- worker 0's run isn't over before n phases are
  abbrev pub GoesOn : Machine S M O → ℕ → ℕ → (ℕ → S) → Type 0
  GoesOn b p n start = (k : ℕ) → k < n → b.over (phases b p k start 0) ≡ false

  -- These are the states of all workers at the end of the run, which is over behind n phases and not before; its outcome is theirs.
  pub record IsRun (b : Machine S M O) (p n : ℕ) (start ends : ℕ → S) : Type 0 where
    pub states : (w : ℕ) → w < p → ends w ≡ phases b p n start w
    pub going : GoesOn b p n start
    pub outcome : run b p (suc n) start ≡ Some (b.outcome (map ends (range_with_len 0 p)))

module _ {M : Type 0} where
  -- entry i of list k
  abbrev pub entry : List (List M) → ℕ → ℕ → Option M
  entry [] k i = None
  entry (ms ∷ rest) zero i = slice_get ms i
  entry (ms ∷ rest) (suc k) i = entry rest k i

  -- By n exchanges each of p workers received a message from each: what worker j received from worker i in an exchange is what i sent to
  -- j in it.
  pub record HaveExchanged (p n : ℕ) (rows columns : ℕ → List (List M)) : Type 0 where
    pub many : (w : ℕ) → w < p → length (columns w) ≡ n
    pub wide : (w : ℕ) → w < p → AllByRecursion (λ (c : List M). length c ≡ p) (columns w)
    pub same : (i j k : ℕ) → i < p → j < p → entry (columns j) k i ≡ entry (rows i) k j

-- The histories of p workers that exchanged are a run of the machine.
abbrev pub HistoriesAreARun : {S M O : Type 0} → Machine S M O → Type 0
HistoriesAreARun {S} {M} {O} b = (p n : ℕ) (start ends : ℕ → S) (rows columns : ℕ → List (List M)) → 0 < p →
    HaveExchanged p n rows columns → ((w : ℕ) → w < p → IsPlayed b p w (start w) (columns w) (rows w) (ends w)) → IsRun b p n start ends
