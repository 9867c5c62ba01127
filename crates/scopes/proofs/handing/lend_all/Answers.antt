use Rattle.std.proofs.Common.{◌≡◌, ◌∙◌, ◌++◌, ◌<◌, ◌+◌, List, Option, append_assoc, ap, arith, drop, length, subst, suc, sym, ℕ, ℤ}
use Rattle.std.specs.Prelude.{IfSome}
use Rattle.pram_model.specs.Layout.{SharedEntry}
use Rattle.scopes.specs.Handed.{cells_by, handed, source}
use Rattle.scopes.proofs.Lists.{flat_from, there}
use Rattle.scopes.proofs.handing.lend_all.Goals as goal

pub loop-i-preserved : goal.loop-i-preserved
loop-i-preserved c =
    let l = c.args.layout.now in
    let cells = c.args.cells.now in
    let asked = c.args.asked.now in
    let i = c.loop-i.i in
    let within : i < length asked = omega arith in
    let e = (there asked i within).0 in
    let at = (there asked i within).1 in
    let f : SharedEntry → List ℤ = λ x. cells_by cells x.bounds (source l x.name) in
    let its : c.name.result.now ≡ e.name =
    subst (λ (o : Option SharedEntry). IfSome o (λ (x : SharedEntry). c.name.result.now ≡ x.name)) at c.name.ensures in
    let bounded : c.bounds.result ≡ e.bounds =
    subst (λ (o : Option SharedEntry). IfSome o (λ (x : SharedEntry). c.bounds.result ≡ x.bounds)) at c.bounds.ensures in
    let here : cells_by cells c.bounds.result c.source-from.result ≡ f e =
    ap (λ b. cells_by cells b c.source-from.result) bounded ∙ ap (cells_by cells e.bounds) c.source-from.ensures
    ∙ ap (λ (t : List ℕ). cells_by cells e.bounds (source l t)) its in
    let old = c.loop-i.handed.items in
    let up : i + 1 ≡ suc i = omega arith in
    ap (λ (xs : List ℤ). xs ++ handed l cells (drop (i + 1) asked)) (c.in_ok-lend.ensures ∙ ap (λ (ys : List ℤ). old ++ ys) here)
    ∙ append_assoc old (f e) (handed l cells (drop (i + 1) asked))
    ∙ ap (λ (k : ℕ). old ++ (f e ++ handed l cells (drop k asked))) up
    ∙ ap (λ (ys : List ℤ). old ++ ys) (sym (flat_from f asked i e at)) ∙ c.loop-i.invariant
