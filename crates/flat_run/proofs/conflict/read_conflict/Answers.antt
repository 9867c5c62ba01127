use Rattle.std.proofs.Common.{◌-◌, ◌∙◌, ◌&&◌, None, Some, cond, length, ap, arith}
use Rattle.std.specs.List.{range_with_len}
use Rattle.pram_model.specs.Layout.{total_size}
use Rattle.pram_values.specs.declared.kind.Kind.TheVariants.{ReadConflict}
use Rattle.pram_values.specs.Total.{total}
use Rattle.superstep_machine.specs.Keys.{least}
use Rattle.superstep_machine.specs.Sending.{several, asks_for, cell_at, conflict_at, is_private, is_several}
use Rattle.instruction_steps.specs.Views.{read_is}
use Rattle.flat_run.specs.Views.{own_of, flat_of}
use Rattle.flat_run.proofs.ConflictLemmas.{conflict_by}
use Rattle.flat_run.proofs.SumLemmas.{sum_goes}
use Rattle.flat_run.proofs.conflict.read_conflict.Goals as goal

pub cells-preserved : goal.cells-preserved
cells-preserved c =
    let d = c.cells.c - 1 in
    let m = c.args.machine.now in
    let read = read_is c.args.read in
    sum_goes None least (conflict_by (flat_of m) c.args.k read) (total_size c.args.code.now.layout) c.cells.c d c.cells.noted _
    c.cells.invariant (omega (arith, c.cells-test.true))
    (c.least-noted.ensures
    ∙ ap (λ a. least a c.cells.noted)
    (c.conflict_of.ensures
    ∙ ap (λ came. cond (is_private read.side && is_several came) (Some (conflict_at read.moment d ReadConflict)) None)
    (c.askers-came.ensures
    ∙ ap (λ ps. total None several (λ v. asks_for d (cell_at c.args.k (own_of ps v).asks)) (range_with_len 0
    (length ps))) c.deref.ensures.value
    ∙ ap (λ n. total None several (λ v. asks_for d (cell_at c.args.k (own_of m.processors.items v).asks)) (range_with_len 0 n))
    c.requires.processors)))
