use Rattle.std.proofs.Common.{◌≡◌, ◌∙◌, ◌++◌, ◌+◌, ◌<◌, ◌≤◌, List, None, Option, Some, ap, arith, codes, drop, false, length, map, subst}
use Rattle.std.proofs.Common.{suc, sym, true, ℕ}
use Rattle.std.specs.List.{find}
use Rattle.std.specs.Option.{option_map}
use Rattle.std.specs.Prelude.{IfSome}
use Rattle.pram_model.specs.Layout.{SharedEntry, subscripts, total_size}
use Rattle.pram_model.specs.Names.{same_text}
use Rattle.scopes.specs.Handed.{Placed, is_named, opened, origin_of, placed}
use Rattle.scopes.proofs.Lists.{drop_over, find_behind, find_here, there}
use Rattle.scopes.proofs.Offered.{opened_is, opened_length, opened_placed}
use Rattle.scopes.proofs.Places.{placed_at}
use Rattle.scopes.proofs.sources.opening_source.Goals as goal

pub returns-then-is_opening : goal.returns-then-is_opening
returns-then-is_opening c =
    let l = c.args.layout.now in
    let i = c.loop-i.i in
    let within : i < length l = omega arith in
    let e = (there l i within).0 in
    let at = (there l i within).1 in
    let name = c.args.name.now in
    let its : c.name.result.now ≡ e.name =
    subst (λ (o : Option SharedEntry). IfSome o (λ (x : SharedEntry). c.name.result.now ≡ x.name)) at c.name.ensures in
    let r = c.range.result in
    let ends : (r.low ≡ (subscripts e.bounds).0) × (r.high ≡ (subscripts e.bounds).1) =
    subst (λ (o : Option SharedEntry). IfSome o
    (λ (x : SharedEntry). (r.low ≡ (subscripts x.bounds).0) × (r.high ≡ (subscripts x.bounds).1))) at c.range.ensures.bounds in
    let here = opened_placed l i e r.first (placed_at 0 l i e r.first r.low r.high at r.ordered ends.0 ends.1
    (c.range.ensures.cells r.low)) in
    let q : Placed = record { entry = opened e; start = total_size l + r.first } in
    let bounded : c.bounds.result ≡ e.bounds =
    subst (λ (o : Option SharedEntry). IfSome o (λ (x : SharedEntry). c.bounds.result ≡ x.bounds)) at c.bounds.ensures in
    let same : same_text (codes "opening_" ++ e.name) name ≡ true =
    ap (λ (t : List ℕ). same_text (codes "opening_" ++ t) name) (sym its) ∙ sym c.is_opening.ensures ∙ c.if-is_opening.true in
    let ps = placed (total_size l) (map opened l) in
    let found : find (is_named name) ps ≡ Some q = sym c.loop-i.invariant ∙ find_here (is_named name) ps i q here same in
    let cells = c.cells.ensures.total in
    let start : c.cells.result + r.first ≡ total_size l + r.first = omega (arith, cells) in
    (λ k. Some (record { start = start k; bounds = bounded k })) ∙ ap (option_map origin_of) (sym found)

pub loop-i-preserved : goal.loop-i-preserved
loop-i-preserved c =
    let l = c.args.layout.now in
    let i = c.loop-i.i in
    let name = c.args.name.now in
    let ps = placed (total_size l) (map opened l) in
    let within : i < length ps = omega (arith, opened_length (total_size l) l) in
    let q = (there ps i within).0 in
    let at = (there ps i within).1 in
    let o = opened_is (total_size l) l i q at in
    let its : c.name.result.now ≡ o.0.name =
    subst (λ (o : Option SharedEntry). IfSome o (λ (x : SharedEntry). c.name.result.now ≡ x.name)) o.1 c.name.ensures in
    let other : same_text q.entry.name name ≡ false =
    ap (λ (t : List ℕ). same_text t name) (o.2 ∙ ap (λ (t : List ℕ). codes "opening_" ++ t) (sym its))
    ∙ sym c.is_opening.ensures ∙ c.if-is_opening.false in
    let up : i + 1 ≡ suc i = omega arith in
    ap (λ (k : ℕ). find (is_named name) (drop k ps)) up ∙ sym (find_behind (is_named name) ps i q at other) ∙ c.loop-i.invariant

pub returns : goal.returns
returns c =
    let l = c.args.layout.now in
    let ps = placed (total_size l) (map opened l) in
    let over : length ps ≤ c.loop-i.i = omega (arith, opened_length (total_size l) l) in
    let none : find (is_named c.args.name.now) ps ≡ None =
    sym c.loop-i.invariant ∙ ap (find (is_named c.args.name.now)) (drop_over ps c.loop-i.i over) in
    ap (option_map origin_of) (sym none)
