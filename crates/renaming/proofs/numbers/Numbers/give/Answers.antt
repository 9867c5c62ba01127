use Rattle.std.proofs.Common.{arith, refl}
use Rattle.renaming.proofs.Given.{given_anew}
use Rattle.renaming.proofs.numbers.Numbers.give.Goals as goal

pub returns : goal.returns
returns c =
    given_anew c.args.self.now _ c.args.register c.index-old.result.now c.index-other.result.now c.requires (omega arith) (omega arith)
    (omega arith)
    c.if-old-self.false c.index-old.ensures c.index-other.ensures refl refl refl
