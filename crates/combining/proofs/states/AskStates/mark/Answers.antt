use Rattle.std.proofs.Common.{true, arith}
use Rattle.combining.proofs.Marks.{length_both, both_mark}
use Rattle.combining.proofs.states.AskStates.mark.Goals as goal

pub index_mut-requires : goal.index_mut-requires
index_mut-requires c =
    let n = length_both c.self.inside.marks.items c.self.inside.came.items in
    let r = rw (← c.self.view_is) at c.requires in
    let v = c.self.inside.marks.ok.0 in
    omega (arith, n, r, v)

pub returns-clause-items : goal.returns-clause-items
returns-clause-items c = rw (← c.self.view_is) (both_mark c.self.inside.marks.items c.self.inside.came.items c.args.place true)
