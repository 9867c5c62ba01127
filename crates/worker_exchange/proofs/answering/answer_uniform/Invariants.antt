use Rattle.std.proofs.Common.{◌≡◌, ℕ, ℤ, length}
use Rattle.superstep_machine.specs.Answering.{answers}
use Rattle.instruction_steps.specs.Views.{registers_of}
use Rattle.worker_exchange.specs.Answered.{Gives}
use Rattle.worker_exchange.proofs.AnswerLemmas.{by_cell, uniform_left}
use Rattle.worker_exchange.proofs.answering.answer_uniform.Given as goal

abbrev pub invariant-reads : goal.invariant-reads
invariant-reads l = record {
  answered : (value : ℕ → ℕ → ℤ) → Gives l.sent.held value →
      uniform_left value l.awaited l.k (registers_of l.registers) ≡ answers value 0 (by_cell l.awaited) (registers_of l.initial.registers);
  count : length l.registers ≡ length l.initial.registers;
}
