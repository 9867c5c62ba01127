-- The levels of a chain's reads, operand by operand.
use Rattle.std.proofs.Common.{◌≡◌, ℕ, List, [], ◌∷◌, ◌+◌, ◌<◌, ◌≤◌, max, refl, ap, sym, ◌∙◌, Global, Box, Vec, drop, length, get_or}
use Rattle.std.proofs.lemmas.List.{drop_more, drop_all}
use Rattle.pram_names.specs.declared.body.Expression.{Chain, Expression, Row_of-Link, end_of-Link, items-the_row-Link}
use Rattle.pram_names.specs.declared.body.Expression.{items_hidden-the_row-Link-0, more_of-Link}
use Rattle.pram_names.specs.declared.body.Expression.TheBlock.{hidden-the_row-Link-0}
use Rattle.pram_names.specs.declared.body.Link.{Link}
use Rattle.plain_form.specs.Formulas.{Between, Formula, chained, formula_of, nesting}
use Rattle.exchange_bound.specs.Events.{levels}

-- those of operands behind so many
abbrev pub levels_behind : ℕ → List Link → ℕ
levels_behind k [] = k
levels_behind k (l ∷ ls) = levels_behind (max k (levels l.operand)) ls

chain_levels : (f : Formula) {n : _} (row : Row_of-Link n) → nesting (chained f row) ≡ levels_behind (nesting f) (items-the_row-Link n row)
chain_levels f end_of-Link = refl
chain_levels f (more_of-Link o e row) = chain_levels (Between o f (formula_of e)) row

pub first_levels : (e : Expression) (first : Box Expression Global) (links : Vec Link Global) (items : List Link) (k : ℕ) →
    e ≡ Chain first links → items ≡ links.items → k ≡ levels first.value → levels_behind k (drop 0 items) ≡ levels e
first_levels e first links items k is all h =
    ap (λ k. levels_behind k items) h ∙ ap (levels_behind (levels first.value)) (all ∙ sym (items_hidden-the_row-Link-0 links))
    ∙ sym (chain_levels (formula_of first.value) (hidden-the_row-Link-0 links)) ∙ sym (ap levels is)

pub more_levels : (e : Expression) (items : List Link) (i k m more : ℕ) (l : Link) → levels_behind k (drop i items) ≡ levels e →
    i < length items → l ≡ get_or items i l → m ≡ levels l.operand → more ≡ max k m → levels_behind more (drop (i + 1) items) ≡ levels e
more_levels e items i k m more l so h is o n =
    ap (λ k. levels_behind k (drop (i + 1) items)) (n ∙ ap (max k) o)
    ∙ sym (ap (levels_behind k) (drop_more items i l h ∙ ap (λ x. x ∷ drop (i + 1) items) (sym is))) ∙ so

pub all_levels : (e : Expression) (items : List Link) (i k : ℕ) → levels_behind k (drop i items) ≡ levels e → length items ≤ i →
    k ≡ levels e
all_levels e items i k so h = sym (ap (levels_behind k) (drop_all i items h)) ∙ so
