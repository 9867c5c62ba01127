-- Workers that go by phases: one worker's part, and the run of all.
-- Leslie G. Valiant, A bridging model for parallel computation (1990): components that compute by themselves and exchange messages
-- between two supersteps.
use Rattle.std.specs.Prelude.{ℕ, zero, suc, List, map, Bool, Option, Some, None, if◌then◌else◌}
use Rattle.std.specs.List.{range_with_len}

-- One worker's part, by its number: the message from a state to each worker, the state after a column (a message from each worker),
-- and whether its run is over; and what the last states of all workers say. Nothing in it knows another worker's state.
pub record Machine (S M O : Type 0) : Type 0 where
  pub message : ℕ → S → ℕ → M
  pub next : ℕ → S → List M → S
  pub over : S → Bool
  pub outcome : List S → O

module _ {S M O : Type 0} where
  -- what worker w sends in a phase: a message to each of p workers
  abbrev pub row : Machine S M O → ℕ → ℕ → S → List M
  row b p w s = map (b.message w s) (range_with_len 0 p)

  -- what worker w gets in a phase, where all are in the states ws
  abbrev pub column : Machine S M O → ℕ → (ℕ → S) → ℕ → List M
  column b p ws w = map (λ i. b.message i (ws i) w) (range_with_len 0 p)

  -- all workers after a phase
  abbrev pub phase : Machine S M O → ℕ → (ℕ → S) → ℕ → S
  phase b p ws w = b.next w (ws w) (column b p ws w)

  -- all workers after n phases
  abbrev pub phases : Machine S M O → ℕ → ℕ → (ℕ → S) → ℕ → S
  phases b p zero ws = ws
  phases b p (suc n) ws = phases b p n (phase b p ws)

  -- the run up to the state in which worker 0's is over, by fewer than n phases
  abbrev pub run : Machine S M O → ℕ → ℕ → (ℕ → S) → Option O
  run b p zero ws = None
  run b p (suc n) ws = if b.over (ws 0) then Some (b.outcome (map ws (range_with_len 0 p))) else run b p n (phase b p ws)
