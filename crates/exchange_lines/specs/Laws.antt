-- What the lines of exchanges are.
use Rattle.std.specs.Prelude.{◌≡◌, ℕ, List, length, ℤ}
use Rattle.superstep_instructions.specs.Code.{SuperstepCode}
use Rattle.superstep_machine.specs.Setting.{Setting}
use Rattle.superstep_machine.specs.Trace.{exchanges_by}
use Rattle.bsp_verify.specs.WellFormed.{IsWellFormed}
use Rattle.exchange_lines.specs.Lines.{AreLinesOf, flat_lines, lines_by}

-- each exchange has one
abbrev pub EachHasOne : Type 0
EachHasOne = (t : Setting) (n : ℕ) (input : List ℤ) → length (lines_by t n input) ≡ length (exchanges_by t n input)

-- and of well-formed code they are those of its run on one memory, for all workers and maps
abbrev pub LinesAreFlat : Type 0
LinesAreFlat = (code : SuperstepCode) → IsWellFormed code → (input : List ℤ) (bound : ℕ) →
    AreLinesOf code input bound (flat_lines code bound input)
