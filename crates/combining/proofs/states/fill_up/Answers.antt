use Rattle.std.proofs.Common.{◌∙◌, ◌∷◌, [], length-append, arith, pos}
use Rattle.combining.proofs.Marks.{both_zero}
use Rattle.combining.proofs.states.fill_up.Goals as goal

pub loop-came-preserved : goal.loop-came-preserved
loop-came-preserved c =
    let inv = c.loop-came.invariant in
    let vs = c.loop-came.came.items in
    let n = length-append vs (pos 0 ∷ []) in
    rw (c.push_reserved.ensures.items) record {
      few = (let t = c.loop-came-test.true in let v = c.loop-came.came.ok.0 in omega (arith, n, t, v));
      same = λ marks. both_zero marks vs ∙ inv.same marks;
      room = c.push_reserved.ensures.capacity ∙ inv.room;
    }
