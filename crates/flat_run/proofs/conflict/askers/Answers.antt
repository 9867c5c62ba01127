use Rattle.std.proofs.Common.{◌-◌, ◌∙◌, None, length, ap, arith}
use Rattle.superstep_machine.specs.Parts.{PrivatePart}
use Rattle.superstep_machine.specs.Sending.{several, asks_for, cell_at}
use Rattle.flat_run.specs.Views.{own_of}
use Rattle.flat_run.proofs.PartLemmas.{own_is}
use Rattle.flat_run.proofs.SumLemmas.{sum_goes}
use Rattle.flat_run.proofs.conflict.askers.Goals as goal

pub processors-preserved : goal.processors-preserved
processors-preserved c =
    let h = c.processors.invariant.bound in
    let v = c.processors.v - 1 in
    sum_goes None several (λ j. asks_for c.args.cell (cell_at c.args.k (own_of c.args.processors.now j).asks))
    (length c.args.processors.now) c.processors.v v c.processors.came _
    c.processors.invariant (omega (arith, c.processors-test.true))
    (c.several-came.ensures
    ∙ ap (λ a. several a c.processors.came)
    (c.asks.ensures ∙ ap (λ (x : PrivatePart). asks_for c.args.cell (cell_at c.args.k x.asks))
    (own_is c.args.processors.now v c.index-processors-v.result (omega (arith, h, c.processors-test.true)) c.index-processors-v.is)))
