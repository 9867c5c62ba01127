-- How the picture of a run's statements was written.
use Rattle.std.specs.Prelude.{ℕ, ℤ, List, Option, Result}
use Rattle.text_out.specs.Out.{OutState}
use Rattle.svg_texts.specs.Shapes.{picture_text}
use Rattle.pram_check.specs.Checked.{Checked}
use Rattle.journal.specs.RunEntries.{run_entries}
use Rattle.journal.specs.declared.telling_in_time.Ending.{Ending}
use Rattle.step_text.specs.declared.failure.StreamFailure.{StreamFailure}
use Rattle.pictures.specs.Steps.Picture.{picture_from}
use Rattle.pictures.specs.Streamed.{HasDrawn}

-- of just the statements of a program's run on an input within a bound, from one number to another
abbrev pub excerpt_of_run : (text : List ℕ) → Checked → List ℤ → (from to bound : ℕ) → List ℕ
excerpt_of_run text program input from to bound =
    picture_text (picture_from program.layout text (run_entries program input bound) from to)

abbrev pub HasStreamedExcerpt : (text : List ℕ) → Checked → List ℤ → (until : Option ℕ) → (bound from to : ℕ) → (old new : OutState) →
    Result Ending StreamFailure → Type 0
HasStreamedExcerpt text program input until bound from to =
    HasDrawn (excerpt_of_run text program input from to) program input until bound
