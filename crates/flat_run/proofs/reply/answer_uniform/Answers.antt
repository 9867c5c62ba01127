use Rattle.std.proofs.Common.{◌∙◌, ◌+◌, ℕ, ℤ, sym, ap, arith}
use Rattle.instruction_steps.specs.Views.{registers_of}
use Rattle.write_rules.proofs.Writes.{same_item}
use Rattle.flat_run.proofs.CellLemmas.{uniform_left, uniform_goes, uniform_ends}
use Rattle.flat_run.proofs.reply.answer_uniform.Goals as goal

pub reads-preserved : goal.reads-preserved
reads-preserved c =
    let value : ℕ → ℕ → ℤ = λ k. registers_of c.args.memory.now in
    let reads = c.args.awaited.now in (
      ap (uniform_left value reads (c.reads.k + 1)) c.answer_in_place.ensures.value
          ∙ sym (uniform_goes value reads c.reads.k _ (registers_of c.reads.registers)
          (omega (arith, c.reads-test.true)) (same_item reads c.reads.k _ _ (omega (arith, c.reads-test.true))))
          ∙ c.reads.invariant.0,
      c.answer_in_place.ensures.count ∙ c.reads.invariant.1,
    )

pub returns-clause-value : goal.returns-clause-value
returns-clause-value c =
    let value : ℕ → ℕ → ℤ = λ k. registers_of c.args.memory.now in
    sym (uniform_ends value c.args.awaited.now c.reads.k (registers_of c.reads.registers)
    (omega (arith, c.reads-test.false)))
    ∙ c.reads.invariant.0
