use Rattle.std.proofs.Common.{◌≡◌, ◌∙◌, List, Option, ap, false, subst, sym, true, ℕ}
use Rattle.std.specs.List.{find}
use Rattle.std.specs.Option.{option_map}
use Rattle.std.specs.Prelude.{IfSome}
use Rattle.pram_model.specs.Layout.{SharedEntry}
use Rattle.pram_model.specs.Names.{same_text}
use Rattle.comparing.specs.Common.{Shared, range_of, same_entry}
use Rattle.scopes.specs.Handed.{Placed, placed}
use Rattle.comparing.proofs.Commons.{named_kept, named_left}
use Rattle.scopes.proofs.Places.{placed_entry}
use Rattle.comparing.proofs.common.named_with.Goals as goal

pub returns-then-is_same_text : goal.returns-then-is_same_text
returns-then-is_same_text c = λ p at.
    let name = c.args.name.now in
    let e_at = placed_entry 0 c.args.first.now c.args.i p at in
    let its : c.name.result.now ≡ p.entry.name =
    subst (λ (o : Option SharedEntry). IfSome o (λ (x : SharedEntry). c.name.result.now ≡ x.name)) e_at c.name.ensures in
    let same : same_text p.entry.name name ≡ true =
    ap (λ (t : List ℕ). same_text t name) (sym its) ∙ sym c.is_same_text.ensures ∙ c.if-is_same_text.true in
    c.range_with.ensures p at
    ∙ ap (λ (o : Option Shared). option_map range_of o)
    (sym (named_kept name p (find (λ (q : Placed). same_entry p.entry q.entry) (placed 0 c.args.second.now)) same))

pub returns-else-is_same_text : goal.returns-else-is_same_text
returns-else-is_same_text c = λ p at.
    let name = c.args.name.now in
    let e_at = placed_entry 0 c.args.first.now c.args.i p at in
    let its : c.name.result.now ≡ p.entry.name =
    subst (λ (o : Option SharedEntry). IfSome o (λ (x : SharedEntry). c.name.result.now ≡ x.name)) e_at c.name.ensures in
    let other : same_text p.entry.name name ≡ false =
    ap (λ (t : List ℕ). same_text t name) (sym its) ∙ sym c.is_same_text.ensures ∙ c.if-is_same_text.false in
    ap (λ (o : Option Shared). option_map range_of o)
    (sym (named_left name p (find (λ (q : Placed). same_entry p.entry q.entry) (placed 0 c.args.second.now)) other))
