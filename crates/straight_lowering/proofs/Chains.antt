-- The formula of a chain, link by link.
use Rattle.std.proofs.Common.{◌≡◌, ℕ, List, [], ◌∷◌, ◌++◌, ◌+◌, ◌<◌, ◌≤◌, refl, ap, sym, ◌∙◌, Global, Box, Vec, take, length, get_or}
use Rattle.std.proofs.lemmas.List.{take_more, take_all}
use Rattle.pram_names.specs.declared.body.Expression.{Chain, Expression, Row_of-Link, end_of-Link, items-the_row-Link}
use Rattle.pram_names.specs.declared.body.Expression.{items_hidden-the_row-Link-0, more_of-Link}
use Rattle.pram_names.specs.declared.body.Expression.TheBlock.{hidden-the_row-Link-0}
use Rattle.pram_names.specs.declared.body.Link.{Link}
use Rattle.plain_form.specs.Formulas.{Formula, Between, formula_of, chained}
use Rattle.straight_lowering.specs.Cursors.{chain_of, first_of, so_far}

items_are_links : (f : Formula) {n : _} (k : Row_of-Link n) → chain_of f (items-the_row-Link n k) ≡ chained f k
items_are_links f end_of-Link = refl
items_are_links f (more_of-Link o e k) = items_are_links (Between o f (formula_of e)) k

-- the formula of a chain
pub formula_of_chain : (e : Expression) (first : Box Expression Global) (links : Vec Link Global) → e ≡ Chain first links →
    formula_of e ≡ chain_of (formula_of first.value) links.items
formula_of_chain e first links is =
    ap formula_of is ∙ sym (items_are_links (formula_of first.value) (hidden-the_row-Link-0 links))
    ∙ ap (chain_of (formula_of first.value)) (items_hidden-the_row-Link-0 links)

chain_append : (f : Formula) (xs : List Link) (l : Link) → chain_of f (xs ++ l ∷ [])
    ≡ Between l.operator (chain_of f xs) (formula_of l.operand)
chain_append f [] l = refl
chain_append f (x ∷ xs) l = chain_append (Between x.operator f (formula_of x.operand)) xs l

pub first_is : (e : Expression) (first : Box Expression Global) (links : Vec Link Global) → e ≡ Chain first links →
    first_of e ≡ formula_of first.value
first_is e first links is = ap first_of is

-- one link more
pub so_far_more : (e : Expression) (items : List Link) (i : ℕ) (l : Link) → i < length items → l ≡ get_or items i l →
    so_far e items (i + 1) ≡ Between l.operator (so_far e items i) (formula_of l.operand)
so_far_more e items i l h is =
    ap (chain_of (first_of e)) (take_more items i l h ∙ ap (λ y. take i items ++ y ∷ []) (sym is))
    ∙ chain_append (first_of e) (take i items) l

-- all links
pub so_far_all : (e : Expression) (first : Box Expression Global) (links : Vec Link Global) (items : List Link) (i : ℕ) →
    e ≡ Chain first links → items ≡ links.items → length items ≤ i → so_far e items i ≡ formula_of e
so_far_all e first links items i is all h =
    ap (chain_of (first_of e)) (take_all i items h ∙ all) ∙ ap (λ f. chain_of f links.items) (first_is e first links is)
    ∙ sym (formula_of_chain e first links is)

-- no link
pub so_far_none : (e : Expression) (first : Box Expression Global) (links : Vec Link Global) (items : List Link) → e ≡ Chain first links →
    so_far e items 0 ≡ formula_of first.value
so_far_none e first links items is = ap first_of is
