use Rattle.std.proofs.Common.{arith}
use Rattle.combining.proofs.Marks.{length_both, values_of}
use Rattle.combining.proofs.states.AskStates.came.Goals as goal

pub returns-clause-few : goal.returns-clause-few
returns-clause-few c =
    let bs = c.self.inside.marks.items in
    let vs = c.self.inside.came.items in
    let n = length_both bs vs in
    let few = c.self.invariant.1 in
    rw (c.as_slice.ensures.value, ← c.self.view_is) (omega (arith, n, few))

pub returns-clause-each : goal.returns-clause-each
returns-clause-each c i =
    rw (c.as_slice.ensures.value, ← c.self.view_is)
    (values_of c.self.inside.marks.items c.self.inside.came.items i c.self.invariant.1)
