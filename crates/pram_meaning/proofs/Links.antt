-- A chain's operands as a list.
use Rattle.std.proofs.Common.{◌≡◌, ℕ, ℤ, List, [], ◌∷◌, ◌+◌, ◌<◌, Err, refl, ap, sym, ◌∙◌, Global, Box, Vec, drop, length, get_or, ◌≤◌}
use Rattle.std.proofs.lemmas.List.{drop_more, drop_all}
use Rattle.pram_names.specs.declared.body.Expression.{Chain, Expression, Row_of-Link, end_of-Link, items-the_row-Link}
use Rattle.pram_names.specs.declared.body.Expression.{items_hidden-the_row-Link-0, more_of-Link}
use Rattle.pram_names.specs.declared.body.Expression.TheBlock.{hidden-the_row-Link-0}
use Rattle.pram_names.specs.declared.body.Link.{Link}
use Rattle.pram_meaning.specs.Attempt.{Attempt, Gives, Trail, and_then, attempt, attempt_links, operation}
use Rattle.pram_meaning.specs.Operation.{operate}
use Rattle.pram_meaning.specs.Runs.{IsAttempt}
use Rattle.pram_meaning.specs.Store.{View}
use Rattle.pram_meaning.specs.declared.attempt.Failure.{Failure}
use Rattle.pram_meaning.specs.declared.attempt.Failure.TheVariants as failure
use Rattle.pram_values.specs.Value.{Value}

abbrev pub attempt_items : View → List Link → Trail → ℤ → Attempt ℤ
attempt_items s [] t v = Gives t v
attempt_items s (l ∷ ls) t v =
    and_then (attempt s l.operand t) (λ t w. and_then (operation (operate l.operator v w) t) (attempt_items s ls))

pub items_are_links : (s : View) {n : _} (k : Row_of-Link n) (t : Trail) (v : ℤ) →
    attempt_items s (items-the_row-Link n k) t v ≡ attempt_links s k t v
items_are_links s end_of-Link t v = refl
items_are_links s (more_of-Link o e k) t v =
    ap (and_then (attempt s e t)) (λ j t w. and_then (operation (operate o v w) t) (λ t u. items_are_links s k t u j))

pub attempt_chain : (s : View) (first : Box Expression Global) (links : Vec Link Global) (t : Trail) →
    attempt s (Chain first links) t ≡ and_then (attempt s first.value t) (attempt_items s links.items)
attempt_chain s first links t =
    ap (and_then (attempt s first.value t)) (λ j t v. (sym (items_are_links s (hidden-the_row-Link-0 links) t v)
    ∙ ap (λ xs. attempt_items s xs t v) (items_hidden-the_row-Link-0 links)) j)

pub chain_starts : (s : View) (e x : Expression) (first : Box Expression Global) (links : Vec Link Global) (xs : List Link) (t t' : Trail)
    (v w : ℤ) → e ≡ Chain first links → x ≡ first.value → xs ≡ links.items → attempt s x t ≡ Gives t' w → v ≡ w →
    attempt s e t ≡ attempt_items s (drop 0 xs) t' v
chain_starts s e x first links xs t t' v w is from same gives value =
    ap (λ e. attempt s e t) is ∙ attempt_chain s first links t ∙ ap (λ x. and_then (attempt s x t) (attempt_items s links.items)) (sym from)
    ∙ ap (λ a. and_then a (attempt_items s links.items)) gives ∙ (λ i. attempt_items s (sym same i) t' (sym value i))

-- the next operand, as it stands before the rest
one_link : (s : View) (a : Attempt ℤ) (items : List Link) (i : ℕ) (l : Link) (t : Trail) (v : ℤ) → a ≡ attempt_items s (drop i items) t v →
    i < length items → l ≡ get_or items i l → a ≡ attempt_items s (l ∷ drop (i + 1) items) t v
one_link s a items i l t v e h is =
    e ∙ ap (λ xs. attempt_items s xs t v) (drop_more items i l h ∙ ap (λ x. x ∷ drop (i + 1) items) (sym is))

-- an operand without a value
pub link_fails : (s : View) (a : Attempt ℤ) (items : List Link) (i : ℕ) (l : Link) (t t' : Trail) (v : ℤ) (f : Failure) →
    a ≡ attempt_items s (drop i items) t v → i < length items → l ≡ get_or items i l →
    IsAttempt {A = ℤ} (Err f) t' (attempt s l.operand t) → IsAttempt {A = ℤ} (Err f) t' a
link_fails s a items i l t t' v (failure.Fault k) e h is fails =
    one_link s a items i l t v e h is
    ∙ ap (λ b. and_then b (λ t w. and_then (operation (operate l.operator v w) t) (attempt_items s (drop (i + 1) items)))) fails
link_fails s a items i l t t' v failure.OutOfMemory e h is fails = tt

-- an operand with a value
link_gives : (s : View) (a : Attempt ℤ) (items : List Link) (i : ℕ) (l : Link) (t t' : Trail) (v w : ℤ) (x : Value) →
    a ≡ attempt_items s (drop i items) t v → i < length items → l ≡ get_or items i l → attempt s l.operand t ≡ Gives t' w →
    x ≡ operate l.operator v w → a ≡ and_then (operation x t') (attempt_items s (drop (i + 1) items))
link_gives s a items i l t t' v w x e h is gives value =
    one_link s a items i l t v e h is
    ∙ ap (λ b. and_then b (λ t w. and_then (operation (operate l.operator v w) t) (attempt_items s (drop (i + 1) items)))) gives
    ∙ ap (λ x. and_then (operation x t') (attempt_items s (drop (i + 1) items))) (sym value)

pub link_done : (s : View) (a : Attempt ℤ) (items : List Link) (i : ℕ) (l : Link) (t t' t'' : Trail) (v w u z : ℤ) (x : Value) →
    a ≡ attempt_items s (drop i items) t v → i < length items → l ≡ get_or items i l → attempt s l.operand t ≡ Gives t' w →
    x ≡ operate l.operator v w → operation x t' ≡ Gives t'' u → z ≡ u → a ≡ attempt_items s (drop (i + 1) items) t'' z
link_done s a items i l t t' t'' v w u z x e h is gives value done same =
    link_gives s a items i l t t' v w x e h is gives value ∙ ap (λ b. and_then b (attempt_items s (drop (i + 1) items))) done
    ∙ ap (attempt_items s (drop (i + 1) items) t'') (sym same)

pub link_stops : (s : View) (a : Attempt ℤ) (items : List Link) (i : ℕ) (l : Link) (t t' t'' : Trail) (v w : ℤ) (x : Value) (f : Failure) →
    a ≡ attempt_items s (drop i items) t v → i < length items → l ≡ get_or items i l → attempt s l.operand t ≡ Gives t' w →
    x ≡ operate l.operator v w → IsAttempt {A = ℤ} (Err f) t'' (operation x t') → IsAttempt {A = ℤ} (Err f) t'' a
link_stops s a items i l t t' t'' v w x (failure.Fault k) e h is gives value fails =
    link_gives s a items i l t t' v w x e h is gives value ∙ ap (λ b. and_then b (attempt_items s (drop (i + 1) items))) fails
link_stops s a items i l t t' t'' v w x failure.OutOfMemory e h is gives value fails = tt

pub links_end : (s : View) (a : Attempt ℤ) (items : List Link) (i : ℕ) (t : Trail) (v : ℤ) → a ≡ attempt_items s (drop i items) t v →
    length items ≤ i → a ≡ Gives t v
links_end s a items i t v e h = e ∙ ap (λ xs. attempt_items s xs t v) (drop_all i items h)
