use Rattle.std.proofs.Common.{◌-◌, ◌∙◌, None, ap, arith}
use Rattle.pram_model.specs.Layout.{total_size}
use Rattle.superstep_machine.specs.Keys.{least}
use Rattle.superstep_machine.specs.Sending.{put_conflict, verdict_on}
use Rattle.instruction_steps.specs.Views.{put_is}
use Rattle.flat_run.specs.Views.{held_of}
use Rattle.flat_run.proofs.SumLemmas.{sum_goes}
use Rattle.flat_run.proofs.conflict.owed.Goals as goal

pub cells-preserved : goal.cells-preserved
cells-preserved c =
    let d = c.cells.c - 1 in
    let m = c.args.machine.now in
    sum_goes None least (λ k. put_conflict (put_is m.uniform.put) k (verdict_on c.args.code.now.rule (held_of m.held.items k)))
    (total_size c.args.code.now.layout) c.cells.c d c.cells.noted _
    c.cells.invariant (omega (arith, c.cells-test.true)) (c.least-noted.ensures ∙ ap (λ a. least a c.cells.noted) c.owed_at.ensures)
