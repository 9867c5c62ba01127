use Rattle.std.proofs.Common.{map}
use Rattle.pram_meaning.specs.Judging.{part_is}
use Rattle.pram_meaning.proofs.Ascents.{writes_quiet}
use Rattle.pram_meaning.proofs.conflict.add_writes.Goals as goal

pub returns-then-are_apart : goal.returns-then-are_apart
returns-then-are_apart c =
    writes_quiet c.args.rule (map part_is c.args.parts.now) c.args.best (c.are_apart.ensures c.if-are_apart.true)
