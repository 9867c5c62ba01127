-- How the picture of what passes through shared memory in a run was written.
use Rattle.std.specs.Prelude.{ℕ, ℤ, List, Option, Result}
use Rattle.text_out.specs.Out.{OutState}
use Rattle.svg_texts.specs.Shapes.{picture_text}
use Rattle.pram_check.specs.Checked.{Checked}
use Rattle.journal.specs.RunEntries.{run_entries}
use Rattle.journal.specs.declared.telling_in_time.Ending.{Ending}
use Rattle.step_text.specs.declared.failure.StreamFailure.{StreamFailure}
use Rattle.pictures.specs.Flows.Asides.{asides_in}
use Rattle.pictures.specs.Flows.Picture.{flow}
use Rattle.pictures.specs.Streamed.{HasDrawn}
use Rattle.pictures.specs.declared.flows.spans.CellSpan.{CellSpan}

-- of just the statements of a program's run on an input within a bound, from one number to another
abbrev pub flow_of_run : (text : List ℕ) → Checked → List ℤ → List CellSpan → (from to bound : ℕ) → List ℕ
flow_of_run text program input only from to bound =
    picture_text (flow program.layout text (asides_in program.body) input (run_entries program input bound) only from to)

abbrev pub HasStreamedFlow : (text : List ℕ) → Checked → List ℤ → (until : Option ℕ) → (bound : ℕ) → List CellSpan → (from to : ℕ) →
    (old new : OutState) → Result Ending StreamFailure → Type 0
HasStreamedFlow text program input until bound only from to =
    HasDrawn (flow_of_run text program input only from to) program input until bound
