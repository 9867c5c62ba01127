use Rattle.std.proofs.Common.{refl, arith}
use mir.Syntax.{w64}
use mir.Val.{of_z, to_z}
use Rattle.scopes.proofs.Skips.{topped_more}
use Rattle.scopes.proofs.apart.top.Goals as goal

pub loop-place-preserved : goal.loop-place-preserved
loop-place-preserved c =
    let high = to_z w64 (of_z w64 c.args.high) in
    topped_more high high c.args.input.now c.loop-place.input c.args.from c.loop-place.place (omega arith) (omega arith) refl
    c.loop-place.invariant
