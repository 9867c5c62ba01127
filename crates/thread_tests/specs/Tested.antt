-- What the tests with threads keep of the seats.
use Rattle.std.specs.Prelude.{◌≡◌, ◌≢◌, ℕ, List, [], map}
use Rattle.atomic_table.specs.Seated.{TableId}
use Rattle.turnstile.specs.Seats.{TurnstileShape, RowState}
use Rattle.turnstile.specs.declared.start.told.Told.TheVariants.{Nothing}
use Rattle.turnstile.specs.Runners.{RunnerState}

abbrev pub whose : RowState → TableId × ℕ
whose r = (r.table, r.worker)

-- the seats of the same workers, in the same order
abbrev pub SameOwners : List RowState → List RowState → Type 0
SameOwners rs ss = map whose ss ≡ map whose rs

-- a seat of the turnstile that has not crossed yet, whose messages have room for three words
pub record MayPlay (t : TurnstileShape) (r : RowState) : Type 0 where
  pub table : r.table ≡ t.table
  pub workers : r.workers ≡ t.workers
  pub sent : r.sent ≡ []

-- a runner of the line at the table id that has heard nothing yet
pub record MayWait {T : Type 0} (id : TableId) (r : RunnerState T) : Type 0 where
  pub table : r.table ≡ id
  pub silent : r.heard ≡ Nothing

abbrev pub which : {T : Type 0} → RunnerState T → TableId × ℕ
which r = (r.table, r.at)

-- the same runners, in the same order
abbrev pub SameRunners : {T : Type 0} → List (RunnerState T) → List (RunnerState T) → Type 0
SameRunners rs ss = map which ss ≡ map which rs

abbrev pub HasHeard : {T : Type 0} → RunnerState T → Type 0
HasHeard r = r.heard ≢ Nothing
