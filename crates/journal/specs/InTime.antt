-- A run that time may end: where it ends, and how who looks at the clock is left there.
use Rattle.std.specs.Prelude.{◌≡◌, ◌≤◌, ◌+◌, ℕ, ℤ, List, [], Option, Some, None, Result, Ok, Err}
use Rattle.write_rules.specs.declared.outcome.Outcome.{Outcome}
use Rattle.write_rules.specs.declared.outcome.Outcome.TheVariants.{GoesOn}
use Rattle.pram_check.specs.Checked.{Checked}
use Rattle.pram_meaning.specs.declared.observation.MeaningRefusal.{MeaningRefusal}
use Rattle.pram_meaning.specs.Moments.{Alone, Closed, Moment, Together}
use Rattle.journal.specs.Entries.{Entry}
use Rattle.journal.specs.HeardLaws.{Left}
use Rattle.journal.specs.declared.in_time.Cut.{Cut}
use Rattle.journal.specs.declared.telling_in_time.Ending.{Ending}

-- Behind how many statements a run ends at the latest, of so many at most, and with this time if any: behind all of them, or where the time
-- is over behind no more.
abbrev pub EndsBy : (until : Option ℕ) → (bound behind : ℕ) → Type 0
EndsBy None bound behind = behind ≡ bound
EndsBy (Some until) bound behind = behind ≤ bound

-- what a run comes to, where its time was over, and where it was not
abbrev pub ending_of : Result Outcome MeaningRefusal → (bound : ℕ) → Option Cut → Result Ending MeaningRefusal
ending_of (Ok o) bound None = Ok (record { outcome = o; bound = bound })
ending_of (Err e) bound None = Err e
ending_of done bound (Some c) = Ok (record { outcome = GoesOn c.output; bound = c.statements })

-- a statement that begins as the one of this number, when the output is this
abbrev pub IsBegun : Moment → (count : ℕ) → (output : List ℤ) → Type 0
IsBegun (Alone here act before tried behind) count output = (before.count ≡ count) × (before.output ≡ output)
IsBegun (Together here act before xs key behind) count output = (before.count ≡ count) × (before.output ≡ output)
IsBegun Closed count output = ⊥

-- a moment at which the time was over: nothing was told of it, and kept are the statements before it and the output
pub record IsOver {T : Type 0} (Tells : T → List Entry → T → Type 0) (until : Option ℕ) (old : T) (m : Moment) (new : T)
    (statements : ℕ) (output : List ℤ) : Type 0 where
  pub told : Tells old [] new
  pub begun : IsBegun m (statements + 1) output
  pub timed : (time : ℕ) × (until ≡ Some time)

-- a moment at which the run ended: its time was over, or the telling ended
abbrev pub GaveUpAt : {T : Type 0} → (T → List Entry → T → Type 0) → (T → Entry → T → Type 0) → Checked → (until : Option ℕ) → (old : T) →
    Moment → (new : T) → Option Cut → Type 0
GaveUpAt Tells BreaksOff p until old m new None = Left Tells BreaksOff p old m new
GaveUpAt Tells BreaksOff p until old m new (Some c) = IsOver Tells until old m new c.statements c.output.items
