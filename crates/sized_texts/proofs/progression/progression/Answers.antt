use Rattle.std.proofs.Common.{◌≢◌, arith, length}
use Rattle.sized_texts.specs.SizeRanges.{Goes, IsProgression}
use Rattle.sized_texts.proofs.Sweeps.{ends, one_step}
use Rattle.sized_texts.proofs.progression.progression.Goals as goal

pub loop-at-preserved : goal.loop-at-preserved
loop-at-preserved c =
    let room : length c.loop-at.sizes.items ≢ 1000 = omega (arith, c.loop-at.sizes.ok.0) in
    rw (c.in_ok-push.ensures.items)
    (one_step c.args.range c.loop-at.at c.next-at.result c.loop-at.sizes.items c.loop-at.invariant room (omega arith) c.next-at.ensures)

pub returns : goal.returns
returns c = (
  ends (IsProgression c.args.range) (Goes c.args.range.growth c.args.range.last c.loop-at.at) c.loop-at.sizes.items c.loop-at.invariant
      (omega arith),
  c.loop-at.invariant.few,
)
