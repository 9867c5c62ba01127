use Rattle.std.proofs.Common.{arith}
use Rattle.address_map.specs.Outcome.{IsFault}
use Rattle.address_map.proofs.affine.Affine.new.Goals as goal

-- an even multiplier
pub returns-then-multiplier-eq0-clause-err : goal.returns-then-multiplier-eq0-clause-err
unfolding IsFault
returns-then-multiplier-eq0-clause-err c =
    (c.in_ok-spread.ensures.ok.3, λ good. let odd = good.1 in let even = c.if-multiplier-eq0.true in omega arith)
