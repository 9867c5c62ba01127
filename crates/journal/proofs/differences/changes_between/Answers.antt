use Rattle.std.proofs.Common.{get_or, pos, refl}
use Rattle.journal.proofs.Differing.{all_go}
use Rattle.journal.proofs.differences.changes_between.Goals as goal

pub loop-cell-preserved : goal.loop-cell-preserved
loop-cell-preserved c =
    let old = get_or c.args.before.now c.loop-cell.cell (pos 0) in
    let new = get_or c.args.after.now c.loop-cell.cell (pos 0) in
    all_go c.args.before.now c.args.after.now c.loop-cell.cell c.min-count.result old new c.loop-cell.changes.items
    c.add_difference.new.changes.items c.loop-cell.invariant c.loop-cell-test.true c.min-count.ensures refl refl
    c.in_ok-add_difference.ensures
