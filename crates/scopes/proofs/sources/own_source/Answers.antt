use Rattle.std.proofs.Common.{◌≡◌, ◌∙◌, ◌+◌, ◌<◌, ◌≤◌, List, None, Option, Some, ap, arith, drop, false, length, subst, suc, sym, true, ℕ}
use Rattle.std.specs.List.{find}
use Rattle.std.specs.Option.{option_map}
use Rattle.std.specs.Prelude.{IfSome, slice_get}
use Rattle.pram_model.specs.Layout.{SharedEntry, subscripts}
use Rattle.pram_model.specs.Names.{same_text}
use Rattle.scopes.specs.Handed.{Placed, is_named, origin_of, placed}
use Rattle.scopes.proofs.Lists.{drop_over, find_behind, find_here, there}
use Rattle.scopes.proofs.Places.{placed_at, placed_entry, placed_length}
use Rattle.scopes.proofs.sources.own_source.Goals as goal

pub returns-then-is_same_text : goal.returns-then-is_same_text
returns-then-is_same_text c =
    let l = c.args.layout.now in
    let i = c.loop-i.i in
    let within : i < length l = omega arith in
    let e = (there l i within).0 in
    let at = (there l i within).1 in
    let name = c.args.name.now in
    let its : c.name.result.now ≡ e.name =
    subst (λ (o : Option SharedEntry). IfSome o (λ (x : SharedEntry). c.name.result.now ≡ x.name)) at c.name.ensures in
    let r = c.range.result in
    let ends : (r.low ≡ (subscripts e.bounds).0) × (r.high ≡ (subscripts e.bounds).1) =
    subst (λ (o : Option SharedEntry). IfSome o
    (λ (x : SharedEntry). (r.low ≡ (subscripts x.bounds).0) × (r.high ≡ (subscripts x.bounds).1))) at c.range.ensures.bounds in
    let q : Placed = record { entry = e; start = r.first } in
    let here : slice_get (placed 0 l) i ≡ Some q =
    placed_at 0 l i e r.first r.low r.high at r.ordered ends.0 ends.1 (c.range.ensures.cells r.low) in
    let bounded : c.bounds.result ≡ e.bounds =
    subst (λ (o : Option SharedEntry). IfSome o (λ (x : SharedEntry). c.bounds.result ≡ x.bounds)) at c.bounds.ensures in
    let same : same_text e.name name ≡ true =
    ap (λ (t : List ℕ). same_text t name) (sym its) ∙ sym c.is_same_text.ensures ∙ c.if-is_same_text.true in
    let found : find (is_named name) (placed 0 l) ≡ Some q =
    sym c.loop-i.invariant ∙ find_here (is_named name) (placed 0 l) i q here same in
    (λ k. Some (record { start = r.first; bounds = bounded k })) ∙ ap (option_map origin_of) (sym found)

pub loop-i-preserved : goal.loop-i-preserved
loop-i-preserved c =
    let l = c.args.layout.now in
    let i = c.loop-i.i in
    let name = c.args.name.now in
    let within : i < length (placed 0 l) = omega (arith, placed_length 0 l) in
    let q = (there (placed 0 l) i within).0 in
    let at = (there (placed 0 l) i within).1 in
    let its : c.name.result.now ≡ q.entry.name =
    subst (λ (o : Option SharedEntry). IfSome o (λ (x : SharedEntry). c.name.result.now ≡ x.name)) (placed_entry 0 l i q at)
    c.name.ensures in
    let other : same_text q.entry.name name ≡ false =
    ap (λ (t : List ℕ). same_text t name) (sym its) ∙ sym c.is_same_text.ensures ∙ c.if-is_same_text.false in
    let up : i + 1 ≡ suc i = omega arith in
    ap (λ (k : ℕ). find (is_named name) (drop k (placed 0 l))) up ∙ sym (find_behind (is_named name) (placed 0 l) i q at other)
    ∙ c.loop-i.invariant

pub returns : goal.returns
returns c =
    let l = c.args.layout.now in
    let over : length (placed 0 l) ≤ c.loop-i.i = omega (arith, placed_length 0 l) in
    let none : find (is_named c.args.name.now) (placed 0 l) ≡ None =
    sym c.loop-i.invariant ∙ ap (find (is_named c.args.name.now)) (drop_over (placed 0 l) c.loop-i.i over) in
    ap (option_map origin_of) (sym none)
