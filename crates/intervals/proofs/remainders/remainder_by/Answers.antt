use Rattle.std.proofs.Common.{refl}
use Rattle.intervals.proofs.Rests.{rest_told}
use Rattle.intervals.proofs.remainders.remainder_by.Goals as goal

pub returns-clause-told : goal.returns-clause-told
returns-clause-told c = rest_told c.args.left c.args.right _ c.remainders.ensures.sound refl c.has.ensures
