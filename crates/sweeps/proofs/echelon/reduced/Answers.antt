use Rattle.std.proofs.Common.{◌<◌, arith}
use Rattle.sweeps.specs.Echelons.{pivot}
use Rattle.sweeps.proofs.Eliminations.{next_same, next_zeros}
use Rattle.sweeps.proofs.echelon.reduced.Goals as goal

pub loop-i-preserved : goal.loop-i-preserved
loop-i-preserved c =
    let i = c.loop-i.i in
    let p = pivot c.args.pivots.now i in
    let to = c.without-left.result in
    let within : i < 7 = let a = c.loop-i-test.true in let b = c.requires.column in omega (arith, a, b) in
    let begins = c.requires.pivots i c.loop-i-test.true in (
      c.without-left.ensures.bounded,
      next_zeros c.loop-i.left p to i c.without-left.ensures.entries begins within c.loop-i.invariant.1,
      λ z first.
          let h = c.loop-i.invariant.2 z first in
          let n = next_same c.loop-i.left p to i c.without-left.ensures.entries begins within z (first i c.loop-i-test.true) in
          (λ yes. n.0 (h.0 yes), λ yes. h.1 (n.1 yes)),
    )
