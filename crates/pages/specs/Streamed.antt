-- How the page of a run was written that time may end.
use Rattle.std.specs.Prelude.{◌≡◌, ℕ, ℤ, List, Option, Result, Ok, Err}
use Rattle.text_out.specs.Out.{OutState, StopsIn, with_bytes}
use Rattle.pram_check.specs.Checked.{Checked}
use Rattle.pram_meaning.specs.Outcome.{IsOutcome}
use Rattle.write_rules.specs.Verdict.{verdict_of}
use Rattle.write_rules.specs.declared.outcome.Outcome.{Outcome}
use Rattle.journal.specs.InTime.{EndsBy}
use Rattle.journal.specs.RunEntries.{run_entries}
use Rattle.journal.specs.declared.telling_in_time.Ending.{Ending}
use Rattle.step_text.specs.declared.failure.StreamFailure.{StreamFailure}
use Rattle.step_text.specs.declared.failure.StreamFailure.TheVariants as failure
use Rattle.pages.specs.Pages.{IsPage}

-- the outcome of a program's run on an input within a bound, and a page of just this run's statements
abbrev pub IsPageOfRun : (file text : List ℕ) → Checked → List ℤ → (bound first last : ℕ) → Outcome → List ℕ → Type 0
IsPageOfRun file text program input bound first last o shows =
    IsOutcome program input bound (verdict_of o) × IsPage file text program input o (run_entries program input bound) first last shows

-- A page of the run up to the bound at which it ended was taken, whole; or a beginning of it, and the writer failed; or nothing.
abbrev pub HasStreamedPage : ((bound : ℕ) → Outcome → List ℕ → Type 0) → (until : Option ℕ) → (bound : ℕ) → (old new : OutState) →
    Result Ending StreamFailure → Type 0
HasStreamedPage IsShown until bound old new (Ok r) = (shows : List ℕ) × IsShown r.bound r.outcome shows × (new ≡ with_bytes old shows)
HasStreamedPage IsShown until bound old new (Err failure.WriteFailed) =
    (r : Ending) × EndsBy until bound r.bound × (shows : List ℕ) × IsShown r.bound r.outcome shows × StopsIn old new shows
HasStreamedPage IsShown until bound old new (Err failure.OutOfMemory) = new ≡ old
HasStreamedPage IsShown until bound old new (Err failure.InputTooLong) = new ≡ old
