use Rattle.std.proofs.Common.{rules, sym, subst, ◌≡◌, ◌∙◌, ◌<◌, ℤ, pos, true, false, length, take, get_or, arith}
use Rattle.std.proofs.lemmas.List.{get_or_default}
use Rattle.std.proofs.lemmas.Int.{to_z-of_z}
use mir.Syntax.{w64}
use mir.Val.{SFits}
use Rattle.std.specs.List.{list_any}
use Rattle.scopes.specs.Lists.{same_value}
use Rattle.scopes.proofs.Clashes.{place_apart, place_clashes}
use Rattle.scopes.proofs.apart.clash.Goals as goal

pub returns-then-stands_in-clause-some : goal.returns-then-stands_in-clause-some
returns-then-stands_in-clause-some c =
    let at = c.loop-at.at in
    let xs = c.args.input.now in
    let x = get_or xs at (pos 0) in
    let lt : at < length xs = omega arith in
    let fits : SFits w64 x = search rules in
    let there : list_any (λ (v : ℤ). same_value v x) (take at xs) ≡ true =
    subst (λ (z : ℤ). list_any (λ (v : ℤ). same_value v z) (take at xs) ≡ true) (to_z-of_z w64 x fits)
    (sym c.stands_in.ensures ∙ c.if-stands_in.true) in
    (lt, place_clashes xs at x lt (get_or_default xs at (pos 0) x lt) there)

pub loop-at-preserved : goal.loop-at-preserved
loop-at-preserved c =
    let at = c.loop-at.at in
    let xs = c.args.input.now in
    let x = get_or xs at (pos 0) in
    let lt : at < length xs = omega arith in
    let fits : SFits w64 x = search rules in
    let none : list_any (λ (v : ℤ). same_value v x) (take at xs) ≡ false =
    subst (λ (z : ℤ). list_any (λ (v : ℤ). same_value v z) (take at xs) ≡ false) (to_z-of_z w64 x fits)
    (sym c.stands_in.ensures ∙ c.if-stands_in.false) in
    place_apart xs at x lt (get_or_default xs at (pos 0) x lt) c.loop-at.invariant none
