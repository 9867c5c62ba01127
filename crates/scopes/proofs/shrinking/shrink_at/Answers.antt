use Rattle.std.proofs.Common.{◌≡◌, ◌∙◌, ℤ, Ok, Some, pos, false, ap, get_or, set, subst, w64, of_z, to_z, rules, List}
use Rattle.std.proofs.lemmas.Int.{to_z-of_z}
use Rattle.std.specs.Prelude.{slice_get}
use mir.Val.{SFits}
use Rattle.scopes.specs.Shrunk.{nearer}
use Rattle.scopes.specs.Wrong.{goes_wrong}
use Rattle.scopes.proofs.Nearer.{passed_by, taken}
use Rattle.scopes.proofs.shrinking.shrink_at.Goals as goal

pub returns-then-branch-clause-put : goal.returns-then-branch-clause-put
returns-then-branch-clause-put c = λ so.
    let xs = c.args.input.now in
    let k = c.args.place in
    let which = c.loop-which.which in
    let v = c.nearer.result in
    let ys = c.try_value.new.input in
    let wanted = goes_wrong c.args.scope c.args.specification.now c.args.program.now c.args.bound c.args.wrong in
    let put = c.in_ok-try_value.ensures.put (ap Ok c.if-branch.true) in
    let x = get_or xs k (pos 0) in
    let fits : SFits w64 x = search rules in
    let at : slice_get (nearer x) which ≡ Some v =
    subst (λ (z : ℤ). slice_get (nearer z) which ≡ Some v) (to_z-of_z w64 x fits) c.nearer.ensures in
    let near : SFits w64 v = search rules in
    let same = c.loop-which.invariant.same in
    let is : ys ≡ set xs k v = put.0 ∙ ap (λ (zs : List ℤ). set zs k (to_z w64 (of_z w64 v))) same ∙ ap (set xs k) (to_z-of_z w64 v near) in
    taken wanted xs ys k which v at is put.1 c.loop-which.invariant.left

pub loop-which-preserved : goal.loop-which-preserved
loop-which-preserved c =
    let xs = c.args.input.now in
    let k = c.args.place in
    let which = c.loop-which.which in
    let v = c.nearer.result in
    let wanted = goes_wrong c.args.scope c.args.specification.now c.args.program.now c.args.bound c.args.wrong in
    let left = c.in_ok-try_value.ensures.left (ap Ok c.if-branch.false) in
    let x = get_or xs k (pos 0) in
    let fits : SFits w64 x = search rules in
    let at : slice_get (nearer x) which ≡ Some v =
    subst (λ (z : ℤ). slice_get (nearer z) which ≡ Some v) (to_z-of_z w64 x fits) c.nearer.ensures in
    let near : SFits w64 v = search rules in
    let same = c.loop-which.invariant.same in
    let refused : wanted (set xs k v) ≡ false =
    subst (λ (z : ℤ). wanted (set xs k z) ≡ false) (to_z-of_z w64 v near)
    (subst (λ (zs : List ℤ). wanted (set zs k (to_z w64 (of_z w64 v))) ≡ false) same left.1) in
    record {
      same = left.0 ∙ c.loop-which.invariant.same;
      left = passed_by wanted xs k which v at refused c.loop-which.invariant.left;
    }
