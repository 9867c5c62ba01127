-- A history that goes on by one exchange.
use Rattle.std.specs.Prelude.{◌≡◌, ℕ, List, [], ◌∷◌, ◌++◌, false}
use Rattle.superstep_machine.specs.Machine.{Machine, row}
use Rattle.superstep_machine.specs.Run.{Purpose}
use Rattle.worker_histories.specs.Histories.{rows_by, end_by, IsGoing}
use Rattle.worker_histories.specs.Shares.{shares_by}

-- One row more is sent, the worker stands behind the column, and its run wasn't over before if it wasn't over here.
pub record Grows {S M O : Type 0} (b : Machine S M O) (p w : ℕ) (s : S) (cs : List (List M)) (c : List M) : Type 0 where
  pub rows : rows_by b p w s (cs ++ c ∷ []) ≡ rows_by b p w s cs ++ row b p w (end_by b w s cs) ∷ []
  pub end : end_by b w s (cs ++ c ∷ []) ≡ b.next w (end_by b w s cs) c
  pub going : IsGoing b w s cs → b.over (end_by b w s cs) ≡ false → IsGoing b w s (cs ++ c ∷ [])

abbrev pub HistoriesGrow : {S M O : Type 0} → Machine S M O → Type 0
HistoriesGrow {S} {M} {O} b = (p w : ℕ) (s : S) (cs : List (List M)) (c : List M) → Grows b p w s cs c

-- one part more of the exchanges
abbrev pub SharesGrow : {S M O : Type 0} → Machine S M O → (ℕ → S → Purpose) → (List M → ℕ) → Type 0
SharesGrow {S} {M} {O} b purpose size = (p w : ℕ) (s : S) (cs : List (List M)) (c : List M) →
    shares_by b purpose size p w s (cs ++ c ∷ []) ≡ shares_by b purpose size p w s cs
    ++ record { purpose = purpose w (end_by b w s cs); sent = size (row b p w (end_by b w s cs)); received = size c } ∷ []
