use Rattle.std.proofs.Common.{◌≡◌, ◌∙◌, ◌<◌, ◌≤◌, List, Option, Some, ap, arith, false, length, subst, sym, take}
use Rattle.std.proofs.lemmas.List.{take_all}
use Rattle.std.proofs.lemmas.List.Elements.{All-push}
use Rattle.std.specs.List.{All}
use Rattle.std.specs.Prelude.{IfSome, slice_get}
use Rattle.pram_model.specs.Layout.{SharedEntry}
use Rattle.scopes.specs.Handed.{is_unlike}
use Rattle.scopes.proofs.Lists.{there, until}
use Rattle.scopes.proofs.unlike.first_unlike.Goals as goal

pub loop-i-preserved : goal.loop-i-preserved
loop-i-preserved c =
    let p = c.args.program.now.layout in
    let l = c.args.postcondition.now.layout in
    let i = c.loop-i.i in
    let asked : c.layout-asked.result.now ≡ l = c.layout-asked.ensures in
    let many = ap (λ (es : List SharedEntry). length es) asked in
    let within : i < length l = omega (arith, many) in
    let e = (there l i within).0 in
    let at = (there l i within).1 in
    let P : SharedEntry → Type 0 = λ x. is_unlike p x ≡ false in
    let here : slice_get c.layout-asked.result.now i ≡ Some e = ap (λ (es : List SharedEntry). slice_get es i) asked ∙ at in
    let told : c.is_unlike.result ≡ is_unlike c.layout.result.now e =
    subst (λ (o : Option SharedEntry). IfSome o (λ (x : SharedEntry). c.is_unlike.result ≡ is_unlike c.layout.result.now x)) here
    c.is_unlike.ensures in
    let other : is_unlike p e ≡ false =
    ap (λ (es : List SharedEntry). is_unlike es e) (sym c.layout.ensures) ∙ sym told ∙ c.if-is_unlike.false in
    record {
      same = asked;
      none = subst (All P) (sym (until l i e at)) (All-push P (take i l) e c.loop-i.invariant.none other);
    }

pub returns-clause-none : goal.returns-clause-none
returns-clause-none c =
    let l = c.args.postcondition.now.layout in
    let i = c.loop-i.i in
    let many = ap (λ (es : List SharedEntry). length es) c.loop-i.invariant.same in
    let over : length l ≤ i = omega (arith, many) in
    subst (All (λ (x : SharedEntry). is_unlike c.args.program.now.layout x ≡ false)) (take_all i l over) c.loop-i.invariant.none
