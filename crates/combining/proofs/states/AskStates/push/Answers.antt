use Rattle.std.proofs.Common.{false, arith}
use Rattle.combining.proofs.Marks.{length_both, both_push}
use Rattle.combining.proofs.states.AskStates.push.Goals as goal

pub push_reserved-requires : goal.push_reserved-requires
push_reserved-requires c =
    let n = length_both c.self.inside.marks.items c.self.inside.came.items in
    let r = rw (← c.self.view_is) at c.requires in
    let v = c.self.inside.marks.ok.0 in
    omega (arith, n, r, v)

pub returns-clause-items : goal.returns-clause-items
returns-clause-items c =
    rw (c.push_reserved.ensures.items, ← c.self.view_is)
    (both_push c.self.inside.marks.items c.self.inside.came.items false c.self.invariant.1)
