-- Rows ascend, and are of those that met or act.
use Rattle.std.proofs.Common.{◌≡◌, ◌<◌, ◌≤◌, ◌-◌, ◌∷◌, ◌⊎◌, inl, inr, ⊎_elim, [], List, ℕ, zero, suc, ℤ, Bool, true, false, arith, drop}
use Rattle.std.proofs.Common.{get_or, length, refl, subst, sym, take}
use Rattle.std.specs.Prelude.{int_lt, nat_lt}
use Rattle.std.specs.List.{AllPairs, Contains}
use Rattle.std.proofs.lemmas.Grind.{common_steps}
use Rattle.std.proofs.lemmas.List.{take-append-drop}
use Rattle.std.proofs.lemmas.List.Elements.{Contains-append_left, Contains-get_or}
use Rattle.journal.specs.Entries.{Entry}
use Rattle.pictures.specs.Steps.Drawn.{acting_drawn, inserted, met_of, offered, offered_beside, place_of, rows_of, with_all, with_others}
use Rattle.pictures.proofs.OfSteps.Contained.{all_few, first, further, others_few}
use Rattle.pictures.proofs.OfSteps.RowTexts.{less_inserted, more_inserted, same_inserted}

-- ---- where an index comes from

split : (x : ℤ) (xs : List ℤ) (j : ℤ) (k : ℕ) → k < length (x ∷ xs) → get_or (x ∷ xs) k j ≡ j → (x ≡ j) ⊎ Contains xs j
split x xs j zero within is = inl is
split x xs j (suc k) within is = let inner : k < length xs = omega (arith, within) in inr (k, inner, is)

pub split_of : (x : ℤ) (xs : List ℤ) (j : ℤ) → Contains (x ∷ xs) j → (x ≡ j) ⊎ Contains xs j
split_of x xs j c = split x xs j c.0 c.1 c.2

from_more : (x : ℤ) (xs : List ℤ) (i j : ℤ) (b : Bool) → int_lt x i ≡ false → int_lt i x ≡ b → Contains (inserted i (x ∷ xs)) j →
    (i ≡ j) ⊎ Contains (x ∷ xs) j
from_more x xs i j true less more c = split_of i (x ∷ xs) j (subst (λ ys. Contains ys j) (more_inserted x xs i less more) c)
from_more x xs i j false less more c = inr (subst (λ ys. Contains ys j) (same_inserted x xs i less more) c)

from_less : (x : ℤ) (xs : List ℤ) (i j : ℤ) (b : Bool) → (Contains (inserted i xs) j → (i ≡ j) ⊎ Contains xs j) → int_lt x i ≡ b →
    Contains (inserted i (x ∷ xs)) j → (i ≡ j) ⊎ Contains (x ∷ xs) j
from_less x xs i j true rest less c = ⊎_elim
    (λ (is : x ≡ j). inr (subst (λ y. Contains (y ∷ xs) j) (sym is) (first j xs)))
    (λ (there : Contains (inserted i xs) j). ⊎_elim (λ (is : i ≡ j). inl is) (λ (old : Contains xs j). inr (further x j xs old))
    (rest there))
    (split_of x (inserted i xs) j (subst (λ ys. Contains ys j) (less_inserted x xs i less) c))
from_less x xs i j false rest less c = from_more x xs i j (int_lt i x) less refl c

pub from_inserted : (xs : List ℤ) (i j : ℤ) → Contains (inserted i xs) j → (i ≡ j) ⊎ Contains xs j
from_inserted [] i j c = split_of i [] j c
from_inserted (x ∷ xs) i j c = from_less x xs i j (int_lt x i) (from_inserted xs i j) refl c

pub from_offered : (most : ℕ) (xs : List ℤ) (i j : ℤ) → Contains (offered most xs i) j → (i ≡ j) ⊎ Contains xs j
from_offered most xs i j c =
    let all = inserted i xs in
    from_inserted xs i j (subst (λ ys. Contains ys j) (take-append-drop most all)
    (Contains-append_left (take most all) (drop most all) j c))

from_all : (xs is : List ℤ) (j : ℤ) → Contains (with_all xs is) j → Contains xs j ⊎ Contains is j
from_all xs [] j c = inl c
from_all xs (i ∷ is) j c = ⊎_elim
    (λ (old : Contains (offered 64 xs i) j). ⊎_elim
    (λ (is_it : i ≡ j). inr (subst (λ y. Contains (y ∷ is) j) (sym is_it) (first j is)))
    (λ (before : Contains xs j). inl before)
    (from_offered 64 xs i j old))
    (λ (new : Contains is j). inr (further i j is new))
    (from_all (offered 64 xs i) is j c)

from_beside : (those xs : List ℤ) (i j : ℤ) (b : Bool) → nat_lt (place_of those i) (length those) ≡ b →
    Contains (offered_beside those xs i) j →
    (i ≡ j) ⊎ Contains xs j
from_beside those xs i j true is c = inr (let same : offered_beside those xs i ≡ xs = rw is in subst (λ ys. Contains ys j) same c)
from_beside those xs i j false is c =
    let same : offered_beside those xs i ≡ offered (64 - length those) xs i = rw is in
    from_offered (64 - length those) xs i j (subst (λ ys. Contains ys j) same c)

from_others : (those xs is : List ℤ) (j : ℤ) → Contains (with_others those xs is) j → Contains xs j ⊎ Contains is j
from_others those xs [] j c = inl c
from_others those xs (i ∷ is) j c = ⊎_elim
    (λ (old : Contains (offered_beside those xs i) j). ⊎_elim
    (λ (is_it : i ≡ j). inr (subst (λ y. Contains (y ∷ is) j) (sym is_it) (first j is)))
    (λ (before : Contains xs j). inl before)
    (from_beside those xs i j (nat_lt (place_of those i) (length those)) refl old))
    (λ (new : Contains is j). inr (further i j is new))
    (from_others those (offered_beside those xs i) is j c)

pub none : (j : ℤ) → Contains [] j → ⊥
none j c = let within = c.1 in omega (arith, within)

pub acts_or_met : (es : List Entry) (i : ℤ) → Contains (rows_of es) i → Contains (acting_drawn es) i ⊎ Contains (met_of es) i
acts_or_met es i c =
    let those = with_all [] (met_of es) in
    ⊎_elim
    (λ (other : Contains (with_others those [] (acting_drawn es)) i). ⊎_elim
    (λ (no_one : Contains [] i). absurd (none i no_one))
    (λ (acts : Contains (acting_drawn es) i). inl acts)
    (from_others those [] (acting_drawn es) i other))
    (λ (that : Contains those i). ⊎_elim
    (λ (no_one : Contains [] i). absurd (none i no_one))
    (λ (met : Contains (met_of es) i). inr met)
    (from_all [] (met_of es) i that))
    (from_all (with_others those [] (acting_drawn es)) those i c)

-- ---- they ascend

trans : (a b c : ℤ) → int_lt a b ≡ true → int_lt b c ≡ true → int_lt a c ≡ true
trans a b c x y = grind (arith, common_steps)

-- each of these is above one
abbrev pub Above : ℤ → List ℤ → Type 0
Above x xs = (j : ℤ) → Contains xs j → int_lt x j ≡ true

-- each is above those before it
abbrev pub Ascend : List ℤ → Type 0
Ascend [] = Unit {0}
Ascend (x ∷ xs) = Above x xs × Ascend xs

above_none : (x : ℤ) → Above x []
above_none x j c = absurd (none j c)

above_two : (i x : ℤ) (xs : List ℤ) → int_lt i x ≡ true → Above x xs → Above i (x ∷ xs)
above_two i x xs less above j c = ⊎_elim (λ (is : x ≡ j). subst (λ y. int_lt i y ≡ true) is less)
    (λ (there : Contains xs j). trans i x j less (above j there)) (split_of x xs j c)

above_inserted : (x i : ℤ) (xs : List ℤ) → int_lt x i ≡ true → Above x xs → Above x (inserted i xs)
above_inserted x i xs less above j c = ⊎_elim (λ (is : i ≡ j). subst (λ y. int_lt x y ≡ true) is less)
    (λ (old : Contains xs j). above j old) (from_inserted xs i j c)

ascends_more : (x : ℤ) (xs : List ℤ) (i : ℤ) (b : Bool) → int_lt x i ≡ false → int_lt i x ≡ b → Ascend (x ∷ xs) →
    Ascend (inserted i (x ∷ xs))
ascends_more x xs i true less more a = subst Ascend (sym (more_inserted x xs i less more)) (above_two i x xs more a.0, a)
ascends_more x xs i false less more a = subst Ascend (sym (same_inserted x xs i less more)) a

ascends_less : (x : ℤ) (xs : List ℤ) (i : ℤ) (b : Bool) → (Ascend xs → Ascend (inserted i xs)) → int_lt x i ≡ b → Ascend (x ∷ xs) →
    Ascend (inserted i (x ∷ xs))
ascends_less x xs i true rest less a = subst Ascend (sym (less_inserted x xs i less)) (above_inserted x i xs less a.0, rest a.1)
ascends_less x xs i false rest less a = ascends_more x xs i (int_lt i x) less refl a

ascends : (xs : List ℤ) (i : ℤ) → Ascend xs → Ascend (inserted i xs)
ascends [] i a = (above_none i, tt)
ascends (x ∷ xs) i a = ascends_less x xs i (int_lt x i) (ascends xs i) refl a

ascends_cut : (n : ℕ) (xs : List ℤ) → Ascend xs → Ascend (take n xs)
ascends_cut zero xs a = tt
ascends_cut (suc n) [] a = tt
ascends_cut (suc n) (x ∷ xs) a = (
  λ j c. a.0 j (subst (λ ys. Contains ys j) (take-append-drop n xs) (Contains-append_left (take n xs) (drop n xs) j c)),
  ascends_cut n xs a.1,
)

pub ascends_all : (xs is : List ℤ) → Ascend xs → Ascend (with_all xs is)
ascends_all xs [] a = a
ascends_all xs (i ∷ is) a = ascends_all (offered 64 xs i) is (ascends_cut 64 (inserted i xs) (ascends xs i a))

ascends_beside : (those xs : List ℤ) (i : ℤ) (b : Bool) → nat_lt (place_of those i) (length those) ≡ b → Ascend xs →
    Ascend (offered_beside those xs i)
ascends_beside those xs i true is a = let same : offered_beside those xs i ≡ xs = rw is in subst Ascend (sym same) a
ascends_beside those xs i false is a =
    let same : offered_beside those xs i ≡ offered (64 - length those) xs i = rw is in
    subst Ascend (sym same) (ascends_cut (64 - length those) (inserted i xs) (ascends xs i a))

ascends_others : (those xs is : List ℤ) → Ascend xs → Ascend (with_others those xs is)
ascends_others those xs [] a = a
ascends_others those xs (i ∷ is) a =
    ascends_others those (offered_beside those xs i) is (ascends_beside those xs i (nat_lt (place_of those i) (length those)) refl a)

by_pairs : (xs : List ℤ) (i j : ℕ) (d : ℤ) → Ascend xs → i < j → j < length xs → int_lt (get_or xs i d) (get_or xs j d) ≡ true
by_pairs [] i j d a less within = absurd (omega (arith, within))
by_pairs (x ∷ xs) i zero d a less within = absurd (omega (arith, less))
by_pairs (x ∷ xs) zero (suc j) d a less within =
    let inner : j < length xs = omega (arith, within) in a.0 (get_or xs j d) (Contains-get_or xs j d inner)
by_pairs (x ∷ xs) (suc i) (suc j) d a less within =
    let inner : j < length xs = omega (arith, within) in
    let before : i < j = omega (arith, less) in
    by_pairs xs i j d a.1 before inner

pub rows_ascend : (es : List Entry) → AllPairs (λ x y. int_lt x y ≡ true) (rows_of es)
rows_ascend es i j d less within =
    let those = with_all [] (met_of es) in
    by_pairs (rows_of es) i j d (ascends_all (with_others those [] (acting_drawn es)) those (ascends_others those [] (acting_drawn es) tt))
    less within

pub rows_few : (es : List Entry) → length (rows_of es) ≤ 64
rows_few es =
    let those = with_all [] (met_of es) in
    let small = others_few those [] (acting_drawn es) (omega arith) in
    all_few (with_others those [] (acting_drawn es)) those (omega (arith, small))
