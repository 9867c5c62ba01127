-- Code that shows what the machine does.
use Rattle.std.specs.Prelude.{ℕ, List, [], ◌∷◌, Option, Some, None, pos, codes, if◌then◌else◌}
use Rattle.std.proofs.Common.{eqb}
use Rattle.pram_model.specs.declared.rule.Rule.TheVariants.{Crew}
use Rattle.pram_model.specs.Layout.{SharedEntry}
use Rattle.address_map.specs.Lawful.{Shape, spread}
use Rattle.address_map.specs.Permutation.{same}
use Rattle.superstep_instructions.specs.declared.instr.Side.TheVariants.{Uniform, Private}
use Rattle.superstep_instructions.specs.declared.instr.Instr.TheVariants.{Mark, Set, Index, Enter, Leave, Ask, Put, Send, Reply, Halt}
use Rattle.write_rules.specs.Verdict.{Verdict}
use Rattle.superstep_machine.specs.declared.mark.HeaderMark.{HeaderMark}
use Rattle.superstep_machine.specs.declared.mark.HeaderMark.TheVariants.{Clear}
use Rattle.superstep_instructions.specs.Code.{SuperstepCode}
use Rattle.superstep_machine.specs.Machine.{run}
use Rattle.superstep_machine.specs.Run.{bsp, opening, setting}

abbrev pub cell : List ℕ → SharedEntry
cell name = record { name = name; bounds = None }

abbrev pub array : List ℕ → ℕ → ℕ → SharedEntry
array name low high = record { name = name; bounds = Some (pos low, pos high) }

-- p workers, where k cells go round the modules in turn
abbrev pub in_turn : ℕ → ℕ → Shape
in_turn k p = spread k p same same

-- Four processors read one cell and write it to a cell each.
abbrev pub broadcast : SuperstepCode
broadcast = record {
  rule = Crew;
  procs = 4;
  layout = array (codes "a") 1 2 ∷ array (codes "b") 1 4 ∷ [];
  uniform_registers = 2;
  private_registers = 2;
  instructions =
      Mark 7
      ∷ Set Uniform 0 (pos 1)
      ∷ Set Uniform 1 (pos 4)
      ∷ Enter 0 1 1
      ∷ Mark 8
      ∷ Set Private 0 (pos 1)
      ∷ Ask Private 1 0 0 1
      ∷ Send
      ∷ Reply
      ∷ Index 0
      ∷ Put Private 1 0 1 2
      ∷ Leave
      ∷ Halt
      ∷ [];
}

-- More processors than there may be: the range is empty, and the fault is told by the next exchange that decides.
abbrev pub too_wide : SuperstepCode
too_wide = record broadcast { procs = 3 }

-- the run of `broadcast` on two workers where worker 1 gets a mark in its second stretch
abbrev pub refused_run : HeaderMark → Option (Option Verdict)
refused_run mark =
    let t = setting broadcast (in_turn 8 2) 2 20 in
    run (bsp t) 2 9 (λ w. record (opening t (pos 9 ∷ pos 8 ∷ []) w) { refusals = if eqb w 1 then Clear ∷ mark ∷ [] else [] })
