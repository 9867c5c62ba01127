use Rattle.std.proofs.Common.{◌≡◌, ◌+ℤ◌, of_z, rules, to_z}
use Rattle.std.specs.Int.{w128}
use Rattle.abstract_runs.proofs.SureSums.{sums_begin, sums_go, sums_past}
use Rattle.abstract_runs.proofs.sure_sums.never_fits.Goals as goal

pub loop-k-init : goal.loop-k-init
loop-k-init c = sums_begin c.args.c c.args.rows.now

pub loop-k-preserved : goal.loop-k-preserved
loop-k-preserved c =
    let less : to_z w128 (of_z w128 c.in-Some.less) ≡ to_z w128 c.loop-k.low-bits +ℤ c.added_to-added.result.least = search rules in
    let more : to_z w128 (of_z w128 c.in-Some-checked_add.more) ≡ to_z w128 c.loop-k.high-bits +ℤ c.added_to-added.result.greatest
    = search rules in
    sums_go c.args.c c.args.rows.now c.loop-k.k c.index-rows-k.result _ c.added_to-added.result _ _ _ _ c.loop-k-test.true c.index-rows-k.is
    c.loop-k.invariant c.added_to-added.ensures less more

pub returns : goal.returns
returns c = λ e. sums_past c.args.c c.args.rows.now c.loop-k.k _ _ c.loop-k-test.false c.loop-k.invariant (c.are_past.ensures e)
