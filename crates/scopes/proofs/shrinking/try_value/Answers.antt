use Rattle.std.proofs.Common.{◌≡◌, ◌∙◌, ℤ, pos, false, ap, get_or, set, subst, sym, w64, of_z, to_z}
use Rattle.std.proofs.lemmas.Int.{to_z-of_z}
use mir.Val.{SFits}
use Rattle.std.proofs.Common.{rules}
use Rattle.scopes.specs.Wrong.{goes_wrong}
use Rattle.scopes.proofs.Nearer.{set_back}
use Rattle.scopes.proofs.shrinking.try_value.Goals as goal

pub returns-then-not-goes-clause-left : goal.returns-then-not-goes-clause-left
returns-then-not-goes-clause-left c = λ so.
    let xs = c.args.input.now in
    let k = c.args.place in
    let v = c.args.value in
    let x = get_or xs k (pos 0) in
    let fits : SFits w64 x = search rules in
    let wanted = goes_wrong c.args.scope c.args.specification.now c.args.program.now c.args.bound c.args.wrong in
    let refused : wanted (set xs k (to_z w64 (of_z w64 v))) ≡ false = sym c.in_ok-goes.ensures ∙ c.if-not-goes.true in (
      ap (λ (z : ℤ). set (set xs k (to_z w64 (of_z w64 v))) k z) (to_z-of_z w64 x fits) ∙ set_back xs k (to_z w64 (of_z w64 v)) (pos 0),
      subst (λ (z : ℤ). wanted (set xs k z) ≡ false) (to_z-of_z w64 v c.ranges.value) refused,
    )
