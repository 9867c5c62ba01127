use Rattle.std.proofs.Common.{◌∙◌, ◌+◌, ℕ, ℤ, sym, ap, arith}
use Rattle.instruction_steps.specs.Views.{registers_of}
use Rattle.write_rules.proofs.Writes.{same_item}
use Rattle.flat_run.proofs.CellLemmas.{own_left, own_goes, own_ends_reads, own_ends_cells}
use Rattle.flat_run.proofs.reply.answer_own.Goals as goal

pub reads-preserved : goal.reads-preserved
reads-preserved c =
    let value : ℕ → ℕ → ℤ = λ k. registers_of c.args.memory.now in
    let reads = c.args.awaited.now in
    let cells = c.args.cells.now in
    ap (own_left value reads cells (c.reads.k + 1)) c.in_ok-answer.ensures
    ∙ sym (own_goes value reads cells c.reads.k _ _ (registers_of c.reads.registers.items)
    (omega (arith, c.reads-test.true)) (omega (arith, c.if-k-cells.true))
    (same_item reads c.reads.k _ _ (omega (arith, c.reads-test.true))) (same_item cells c.reads.k _ _ (omega (arith, c.if-k-cells.true))))
    ∙ c.reads.invariant

pub returns-else-k-cells : goal.returns-else-k-cells
returns-else-k-cells c =
    let value : ℕ → ℕ → ℤ = λ k. registers_of c.args.memory.now in
    sym (own_ends_cells value c.args.awaited.now c.args.cells.now c.reads.k (registers_of c.reads.registers.items)
    (omega (arith, c.if-k-cells.false)))
    ∙ c.reads.invariant

pub returns-after-reads : goal.returns-after-reads
returns-after-reads c =
    let value : ℕ → ℕ → ℤ = λ k. registers_of c.args.memory.now in
    sym (own_ends_reads value c.args.awaited.now c.args.cells.now c.reads.k (registers_of c.reads.registers.items)
    (omega (arith, c.reads-test.false)))
    ∙ c.reads.invariant
