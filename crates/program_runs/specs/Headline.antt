-- What the code of a text comes to on workers, whatever map lays its cells out.
use Rattle.std.specs.Prelude.{◌↔◌, ℕ, ◌≤◌, List, length, ℤ}
use Rattle.pram_model.specs.Layout.{total_size}
use Rattle.address_map.specs.Lawful.{Shape}
use Rattle.write_rules.specs.Verdict.{Verdict}
use Rattle.superstep_instructions.specs.Code.{SuperstepCode}
use Rattle.superstep_machine.specs.Run.{IsBspOutcome}
use Rattle.flat_machine.specs.Flatness.{IsMapFor}
use Rattle.pram_meaning.specs.Values.{AreValues}
use Rattle.program_texts.specs.Report.{IsRunOf}
use Rattle.program_runs.specs.Compiled.{IsCompiledFrom}

-- A verdict is the outcome of a text's code on the workers of any lawful map with a place for each cell, on an input that fits and within
-- any bound, exactly when it is the outcome of the text's program.
abbrev pub CompiledTextsMeanTheirPrograms : Type 0
CompiledTextsMeanTheirPrograms = (text : List ℕ) (code : SuperstepCode) → IsCompiledFrom text code → (map : Shape) → IsMapFor code map →
    (input : List ℤ) → AreValues input → length input ≤ total_size code.layout → (bound : ℕ) (verdict : Verdict) →
    IsBspOutcome code map input bound verdict ↔ IsRunOf text input bound code.layout verdict
