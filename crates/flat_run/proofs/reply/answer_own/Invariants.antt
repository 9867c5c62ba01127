use Rattle.std.proofs.Common.{◌≡◌, ◌-◌, length, map}
use Rattle.std.specs.List.{zip}
use Rattle.superstep_machine.specs.Answering.{answers, destinations}
use Rattle.instruction_steps.specs.Views.{registers_of, read_is}
use Rattle.flat_run.proofs.CellLemmas.{own_left}
use Rattle.flat_run.proofs.reply.answer_own.Given as goal

abbrev pub invariant-reads : goal.invariant-reads
invariant-reads l =
    own_left (λ k c. registers_of l.memory c) l.awaited l.cells l.k (registers_of l.registers.items)
    ≡ answers (λ k c. registers_of l.memory c) 0 (zip (destinations (map read_is l.awaited)) l.cells)
    (registers_of l.fn.registers.items)

abbrev pub decreases-reads : goal.decreases-reads
decreases-reads l = length l.awaited - l.k
