use Rattle.std.proofs.Common.{◌≡◌, ◌≤◌, ℕ, List, length, drop, map}
use Rattle.superstep_instructions.specs.Code.{SuperstepCode}
use Rattle.superstep_machine.specs.declared.header.MessageHeader.{MessageHeader}
use Rattle.superstep_machine.specs.Setting.{module_cells}
use Rattle.superstep_machine.specs.Sending.{read_conflicts}
use Rattle.superstep_machine.specs.Run.{setting}
use Rattle.superstep_machine.specs.WordLaws.{messages_read}
use Rattle.instruction_steps.specs.Views.{read_is}
use Rattle.combining.specs.ModuleLaws.{ask_parts}
use Rattle.worker_exchange.proofs.settling.key_of_reads.Given as goal

abbrev pub invariant-reads : goal.invariant-reads
invariant-reads g l =
    let m = g.M.AddressMap.shape l.map in
    record {
      low : l.k ≤ length l.reads;
      same : l.cells ≡ l.fn.cells;
      key : (code : SuperstepCode) (bound n : ℕ) (received : List (MessageHeader × List ℕ)) →
          ask_parts code.rule received ≡ map (λ x. x.now) l.columns →
          l.noted ≡ read_conflicts (messages_read code.rule m l.part received) (module_cells (setting code m bound n) l.part) l.k
          (map read_is (drop l.k l.reads));
    }

abbrev pub decreases-reads : goal.decreases-reads
decreases-reads g l = l.k
