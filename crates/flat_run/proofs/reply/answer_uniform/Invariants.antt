use Rattle.std.proofs.Common.{◌≡◌, ◌-◌, length, map}
use Rattle.superstep_machine.specs.Parts.{Read}
use Rattle.superstep_machine.specs.Answering.{answers}
use Rattle.instruction_steps.specs.Views.{registers_of, read_is}
use Rattle.flat_run.proofs.CellLemmas.{uniform_left}
use Rattle.flat_run.proofs.reply.answer_uniform.Given as goal

abbrev pub invariant-reads : goal.invariant-reads
invariant-reads l =
    (uniform_left (λ k c. registers_of l.memory c) l.awaited l.k (registers_of l.registers)
    ≡ answers (λ k c. registers_of l.memory c) 0 (map (λ (x : Read). (x.destination, x.cell)) (map read_is l.awaited))
    (registers_of l.fn.registers))
    × (length l.registers ≡ length l.fn.registers)

abbrev pub decreases-reads : goal.decreases-reads
decreases-reads l = length l.awaited - l.k
