use Rattle.std.specs.Int.{w128}
use Rattle.std.proofs.lemmas.Int.{wrapping_add_is}
use Rattle.write_rules.proofs.summed.added.Goals as goal

pub returns : goal.returns
returns c = wrapping_add_is w128 c.args.x c.args.y c.ranges.x c.ranges.y
