-- A chain's operands as a list.
use Rattle.std.proofs.Common.{◌≡◌, ℕ, ℤ, List, [], ◌∷◌, ◌+◌, ◌<◌, ◌≤◌, Result, Ok, Err, Global, Box, Vec, drop, length, get_or, ap, refl}
use Rattle.std.proofs.Common.{sym}
use Rattle.std.proofs.Common.{◌∙◌}
use Rattle.std.proofs.lemmas.List.{drop_more, drop_all}
use Rattle.pram_names.specs.declared.body.Expression.{Chain, Expression, Row_of-Link, end_of-Link, items-the_row-Link}
use Rattle.pram_names.specs.declared.body.Expression.{items_hidden-the_row-Link-0, more_of-Link}
use Rattle.pram_names.specs.declared.body.Expression.TheBlock.{hidden-the_row-Link-0}
use Rattle.pram_names.specs.declared.body.Link.{Link}
use Rattle.pram_meaning.specs.Operation.{operate}
use Rattle.pram_meaning.specs.Store.{View}
use Rattle.journal.specs.Causes.{Between, Cause}
use Rattle.journal.specs.FoundCauses.{and_find, links_or_cause, unless_wrong, value_or_cause}

abbrev pub items_or_cause : View → List Link → ℤ → Result ℤ Cause
items_or_cause s [] v = Ok v
items_or_cause s (l ∷ ls) v =
    and_find (value_or_cause s l.operand) (λ w. and_find (unless_wrong (Between v l.operator w) (operate l.operator v w))
    (items_or_cause s ls))

items_are_links : (s : View) {n : _} (k : Row_of-Link n) (v : ℤ) → items_or_cause s (items-the_row-Link n k) v ≡ links_or_cause s k v
items_are_links s end_of-Link v = refl
items_are_links s (more_of-Link o e k) v =
    ap (and_find (value_or_cause s e)) (λ j w. and_find (unless_wrong (Between v o w) (operate o v w)) (λ u. items_are_links s k u j))

chain_is : (s : View) (first : Box Expression Global) (links : Vec Link Global) →
    value_or_cause s (Chain first links) ≡ and_find (value_or_cause s first.value) (items_or_cause s links.items)
chain_is s first links =
    ap (and_find (value_or_cause s first.value)) (λ j v. (sym (items_are_links s (hidden-the_row-Link-0 links) v)
    ∙ ap (λ xs. items_or_cause s xs v) (items_hidden-the_row-Link-0 links)) j)

pub chain_starts : (s : View) (e : Expression) (first : Box Expression Global) (links : Vec Link Global) (v : ℤ) →
    e ≡ Chain first links → value_or_cause s first.value ≡ Ok v → value_or_cause s e ≡ items_or_cause s (drop 0 links.items) v
chain_starts s e first links v is gives =
    ap (λ e. value_or_cause s e) is ∙ chain_is s first links ∙ ap (λ a. and_find a (items_or_cause s links.items)) gives

-- the next operand, as it stands before the rest
one_link : (s : View) (a : Result ℤ Cause) (items : List Link) (i : ℕ) (l : Link) (v : ℤ) → a ≡ items_or_cause s (drop i items) v →
    i < length items → l ≡ get_or items i l → a ≡ items_or_cause s (l ∷ drop (i + 1) items) v
one_link s a items i l v e h is =
    e ∙ ap (λ xs. items_or_cause s xs v) (drop_more items i l h ∙ ap (λ x. x ∷ drop (i + 1) items) (sym is))

-- an operand that has no value
pub link_fails : (s : View) (a : Result ℤ Cause) (items : List Link) (i : ℕ) (l : Link) (v : ℤ) (c : Cause) →
    a ≡ items_or_cause s (drop i items) v → i < length items → l ≡ get_or items i l → value_or_cause s l.operand ≡ Err c → a ≡ Err c
link_fails s a items i l v c e h is fails =
    one_link s a items i l v e h is
    ∙ ap (λ b. and_find b (λ w. and_find (unless_wrong (Between v l.operator w) (operate l.operator v w))
    (items_or_cause s (drop (i + 1) items)))) fails

-- an operand with a value
link_gives : (s : View) (a : Result ℤ Cause) (items : List Link) (i : ℕ) (l : Link) (v w : ℤ) →
    a ≡ items_or_cause s (drop i items) v → i < length items → l ≡ get_or items i l → value_or_cause s l.operand ≡ Ok w →
    a ≡ and_find (unless_wrong (Between v l.operator w) (operate l.operator v w)) (items_or_cause s (drop (i + 1) items))
link_gives s a items i l v w e h is gives =
    one_link s a items i l v e h is
    ∙ ap (λ b. and_find b (λ w. and_find (unless_wrong (Between v l.operator w) (operate l.operator v w))
    (items_or_cause s (drop (i + 1) items)))) gives

pub link_done : (s : View) (a : Result ℤ Cause) (items : List Link) (i : ℕ) (l : Link) (v w u : ℤ) →
    a ≡ items_or_cause s (drop i items) v → i < length items → l ≡ get_or items i l → value_or_cause s l.operand ≡ Ok w →
    unless_wrong (Between v l.operator w) (operate l.operator v w) ≡ Ok u → a ≡ items_or_cause s (drop (i + 1) items) u
link_done s a items i l v w u e h is gives done =
    link_gives s a items i l v w e h is gives ∙ ap (λ b. and_find b (items_or_cause s (drop (i + 1) items))) done

pub link_stops : (s : View) (a : Result ℤ Cause) (items : List Link) (i : ℕ) (l : Link) (v w : ℤ) (c : Cause) →
    a ≡ items_or_cause s (drop i items) v → i < length items → l ≡ get_or items i l → value_or_cause s l.operand ≡ Ok w →
    unless_wrong (Between v l.operator w) (operate l.operator v w) ≡ Err c → a ≡ Err c
link_stops s a items i l v w c e h is gives fails =
    link_gives s a items i l v w e h is gives ∙ ap (λ b. and_find b (items_or_cause s (drop (i + 1) items))) fails

pub links_end : (s : View) (a : Result ℤ Cause) (items : List Link) (i : ℕ) (v : ℤ) → a ≡ items_or_cause s (drop i items) v →
    length items ≤ i → a ≡ Ok v
links_end s a items i v e h = e ∙ ap (λ xs. items_or_cause s xs v) (drop_all i items h)
