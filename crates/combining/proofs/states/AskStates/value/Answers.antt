use Rattle.std.proofs.Common.{rules, ◌∙◌, ◌<◌, ◌≤◌, length, sym, arith, pos, FitsSigned, w64}
use Rattle.std.proofs.lemmas.Int.{to_z-of_z}
use Rattle.std.proofs.lemmas.List.{get_or_default}
use Rattle.std.proofs.Math.ListN.{get_or-eq_default}
use Rattle.combining.proofs.Marks.{values_of}
use Rattle.combining.proofs.states.AskStates.value.Goals as goal

pub returns-then-place-len : goal.returns-then-place-len
returns-then-place-len c =
    let vs = c.self.inside.came.items in
    let v = c.self.inside.came.ok.0 in
    let l : c.args.place < length vs = omega arith in
    let fits : FitsSigned w64 c.index.result.now = search rules in
    rw (← c.self.view_is)
    (to_z-of_z w64 c.index.result.now fits ∙ c.index.ensures ∙ sym (get_or_default vs c.args.place (pos 0) c.index.result.now l)
    ∙ values_of c.self.inside.marks.items vs c.args.place c.self.invariant.1)

pub returns-else-place-len : goal.returns-else-place-len
returns-else-place-len c =
    let vs = c.self.inside.came.items in
    let v = c.self.inside.came.ok.0 in
    let off : length vs ≤ c.args.place = omega arith in
    rw (← c.self.view_is) (sym (get_or-eq_default vs (pos 0) off) ∙ values_of c.self.inside.marks.items vs c.args.place c.self.invariant.1)
