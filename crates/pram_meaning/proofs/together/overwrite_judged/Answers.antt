use Rattle.std.proofs.Common.{map, ◌∙◌}
use Rattle.pram_meaning.specs.Accesses.{writes_made}
use Rattle.pram_meaning.specs.Judging.{part_is}
use Rattle.pram_meaning.proofs.Overwrites.{over_ends, over_goes}
use Rattle.pram_meaning.proofs.together.overwrite_judged.Goals as goal

pub loop-one-preserved : goal.loop-one-preserved
loop-one-preserved c =
    over_goes c.args.rule (writes_made (map part_is c.args.parts.now)) c.deref-one-items.result.now c.loop-one.one-index _
    c.args.cells.now.items c.loop-one.cells.items c.write_back.new.cells.items
    c.loop-one.invariant (c.deref-one-items.ensures.value ∙ c.in_ok-said.ensures) c.loop-one-test.true c.write_back.ensures

pub returns : goal.returns
returns c =
    over_ends c.args.rule (map part_is c.args.parts.now) c.deref-one-items.result.now c.loop-one.one-index c.args.cells.now.items
    c.loop-one.cells.items
    c.loop-one.invariant (c.deref-one-items.ensures.value ∙ c.in_ok-said.ensures) c.loop-one-test.false
