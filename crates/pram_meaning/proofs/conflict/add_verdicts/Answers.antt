use Rattle.std.proofs.Common.{map, ◌∙◌}
use Rattle.pram_meaning.specs.Judging.{part_is}
use Rattle.pram_meaning.proofs.Written.{verdicts_end}
use Rattle.pram_meaning.proofs.conflict.add_verdicts.Goals as goal

pub returns : goal.returns
returns c =
    verdicts_end c.args.rule (map part_is c.args.parts.now) c.deref-one-items.result.now c.loop-one.one-index c.args.best
    c.loop-one.best
    c.loop-one.invariant (c.deref-one-items.ensures.value ∙ c.in_ok-said.ensures) c.loop-one-test.false
