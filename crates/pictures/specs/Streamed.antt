-- How the picture of a run was written that time may end.
use Rattle.std.specs.Prelude.{◌≡◌, ℕ, ℤ, List, Option, Result, Ok, Err}
use Rattle.text_out.specs.Out.{OutState, StopsIn, with_bytes}
use Rattle.pram_check.specs.Checked.{Checked}
use Rattle.pram_meaning.specs.Outcome.{IsOutcome}
use Rattle.write_rules.specs.Verdict.{verdict_of}
use Rattle.journal.specs.InTime.{EndsBy}
use Rattle.journal.specs.declared.telling_in_time.Ending.{Ending}
use Rattle.step_text.specs.declared.failure.StreamFailure.{StreamFailure}
use Rattle.step_text.specs.declared.failure.StreamFailure.TheVariants as failure

-- The picture of the run up to the bound at which it ended was taken, whole; or a beginning of it, and the writer failed, when the run was
-- over; or nothing.
abbrev pub HasDrawn : (drawn : (bound : ℕ) → List ℕ) → Checked → List ℤ → (until : Option ℕ) → (bound : ℕ) → (old new : OutState) →
    Result Ending StreamFailure → Type 0
HasDrawn drawn program input until bound old new (Ok r) = new ≡ with_bytes old (drawn r.bound)
HasDrawn drawn program input until bound old new (Err failure.WriteFailed) =
    (r : Ending) × EndsBy until bound r.bound × IsOutcome program input r.bound (verdict_of r.outcome) × StopsIn old new (drawn r.bound)
HasDrawn drawn program input until bound old new (Err failure.OutOfMemory) = new ≡ old
HasDrawn drawn program input until bound old new (Err failure.InputTooLong) = new ≡ old
