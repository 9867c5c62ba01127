use Rattle.std.proofs.Common.{pos}
use Rattle.std.specs.Int.{w128}
use Rattle.std.proofs.lemmas.Int.{to_z-of_z}
use Rattle.write_rules.proofs.Writes.{sum_goes_at}
use Rattle.write_rules.proofs.values.total.Goals as goal

pub loop-write-preserved : goal.loop-write-preserved
loop-write-preserved c =
    rw (to_z-of_z w128 c.with_value-sum.result c.with_value-sum.ensures.sum_fits)
    (sum_goes_at c.args.writes.now c.loop-write.write-index _ c.with_value-sum.result (record { processor = pos 0; value = pos 0 })
    c.loop-write.invariant c.loop-write-test.true c.with_value-sum.ensures.fits c.with_value-sum.ensures.value)
