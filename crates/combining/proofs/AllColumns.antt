-- Words that are added to the columns of all modules, one item after the other.
use Rattle.std.proofs.Common.{◌≡◌, ℕ, zero, suc, ◌+◌, ◌<◌, ◌≤◌, List, [], ◌∷◌, ◌++◌, length, get_or, set, map, refl, sym, ap, ◌∙◌}
use Rattle.std.proofs.Common.{subst, arith, ⊎_elim, Vec, Global, vec_capacity, length-append}
use Rattle.std.proofs.lemmas.List.{get_or-set_same, get_or-set_other, length-map, map-set}
use Rattle.std.proofs.lemmas.Bool.{cases_eq}
use Rattle.combining.specs.AllModules.{column, room_at, GetsFirst}

-- ---- a list of which one item is changed

pub changed_here : {A B : Type 0} (f : A → B) (xs : List A) (n : ℕ) (v : A) (d : B) → n < length xs → get_or (map f (set xs n v)) n d ≡ f v
changed_here f xs n v d l =
    ap (λ ys. get_or ys n d) (map-set f xs n v)
    ∙ get_or-set_same (map f xs) n (f v) d (let e = length-map xs f in omega (arith, e, l))

pub changed_elsewhere : {A B : Type 0} (f : A → B) (xs : List A) (n j : ℕ) (v : A) (d : B) → (n ≡ j → ⊥) →
    get_or (map f (set xs n v)) j d ≡ get_or (map f xs) j d
changed_elsewhere f xs n j v d apart = ap (λ ys. get_or ys j d) (map-set f xs n v)
    ∙ get_or-set_other (map f xs) n j (f v) d (λ e. apart (sym e))

pub item_of : {A B : Type 0} (f : A → B) (xs : List A) (n : ℕ) (v : A) (d : B) → n < length xs → v ≡ get_or xs n v →
    get_or (map f xs) n d ≡ f v
item_of f [] n v d l is = absurd (omega (arith, l))
item_of f (x ∷ xs) zero v d l is = ap f (sym is)
item_of f (x ∷ xs) (suc n) v d l is = item_of f xs n v d (omega (arith, l)) is

-- what is the same of the changed item is the same of all
pub same_of_all : {A B : Type 0} (f : A → B) (xs : List A) (n : ℕ) (v w : A) → v ≡ get_or xs n v → f w ≡ f v → map f (set xs n w) ≡ map f xs
same_of_all f [] n v w is e = refl
same_of_all f (x ∷ xs) zero v w is e = ap (λ y. y ∷ map f xs) (e ∙ ap f is)
same_of_all f (x ∷ xs) (suc n) v w is e = ap (λ ys. f x ∷ ys) (same_of_all f xs n v w is e)

-- as many columns as there are rooms
pub as_long : {A B : Type 0} (f : A → B) (xs ys : List A) → map f xs ≡ map f ys → length xs ≡ length ys
as_long f xs ys e = sym (length-map xs f) ∙ ap length e ∙ length-map ys f

-- ---- a row of columns, to one of which words are added

abbrev Words : Type 0
Words = Vec ℕ Global

abbrev items : Words → List ℕ
items v = v.items

-- there is room for so many more words
room_here : (row first : List Words) (n k : ℕ) (v : Words) (all : List ℕ) → n < length row → v ≡ get_or row n v →
    map vec_capacity row ≡ map vec_capacity first →
    length (column (map items first) n) + length all ≤ room_at (map vec_capacity first) n →
    length (column (map items row) n) + k ≤ length (column (map items first) n ++ all) →
    length (get_or row n v).items + k ≤ vec_capacity (get_or row n v)
room_here row first n k v all within is rooms room one =
    let a : length (column (map items row) n) ≡ length (get_or row n v).items =
    ap length (item_of items row n v [] within is) ∙ ap (λ (u : Words). length u.items) is in
    let b : room_at (map vec_capacity first) n ≡ vec_capacity (get_or row n v) =
    ap (λ rs. room_at rs n) (sym rooms) ∙ item_of vec_capacity row n v 0 within is ∙ ap vec_capacity is in
    let c = length-append (column (map items first) n) all in
    omega (arith, a, b, c, room, one)

-- a run of words is added to one column
pub run_added : (row : List Words) (n : ℕ) (v w : Words) → n < length row → v ≡ get_or row n v → (before after : ℕ → List ℕ) →
    GetsFirst n before after (get_or row n v).items w.items → (j : ℕ) →
    column (map items (set row n w)) j ++ after j ≡ column (map items row) j ++ before j
run_added row n v w within is before after got j =
    ⊎_elim
    (λ same.
    subst (λ (k : ℕ). column (map items (set row n w)) k ++ after k ≡ column (map items row) k ++ before k) same
    (ap (λ ws. ws ++ after n) (changed_here items row n w [] within) ∙ got.got ∙ ap (λ (u : Words). u.items ++ before n) (sym is)
    ∙ ap (λ ws. ws ++ before n) (sym (item_of items row n v [] within is))))
    (λ apart.
    ap (λ ws. ws ++ after j) (changed_elsewhere items row n j w [] apart) ∙ ap (λ ws. column (map items row) j ++ ws) (got.others j apart))
    (cases_eq n j)

-- and there is room for it
pub room_for_run : (row first : List Words) (n : ℕ) (v : Words) (before all : List ℕ) → n < length row → v ≡ get_or row n v →
    map vec_capacity row ≡ map vec_capacity first →
    length (column (map items first) n) + length all ≤ room_at (map vec_capacity first) n →
    column (map items row) n ++ before ≡ column (map items first) n ++ all →
    length (get_or row n v).items + length before ≤ vec_capacity (get_or row n v)
room_for_run row first n v before all within is rooms room known =
    room_here row first n (length before) v all within is rooms room
    (let a = length-append (column (map items row) n) before in let b = ap length known in omega (arith, a, b))
