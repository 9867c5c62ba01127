-- Where rows are left, all that act have one.
use Rattle.std.proofs.Common.{◌≡◌, ◌∙◌, ◌<◌, ◌≤◌, ◌+◌, ◌-◌, ◌∷◌, ◌⊎◌, inl, inr, ⊎_elim, [], List, ℕ, zero, suc, ℤ, Bool, true, false}
use Rattle.std.proofs.Common.{ap, arith, get_or, length, refl, subst, sym}
use Rattle.std.specs.Prelude.{int_lt, nat_lt}
use Rattle.std.specs.List.{Contains}
use Rattle.std.specs.Ordering.{int_eq}
use Rattle.std.proofs.lemmas.Bool.{cases_lt}
use Rattle.std.proofs.lemmas.Bool.Decides.{Decides-int_eq}
use Rattle.std.proofs.lemmas.Grind.{common_steps}
use Rattle.std.proofs.lemmas.List.{length-take-le, take_all}
use Rattle.journal.specs.Entries.{Entry}
use Rattle.pictures.specs.Steps.Drawn.{acting_drawn, inserted, met_of, offered, offered_beside, place_of, rows_of, with_all, with_others}
use Rattle.pictures.proofs.OfSteps.Contained.{all_few, comes, first, further, is_inserted, is_kept, others_few, stays}
use Rattle.pictures.proofs.OfSteps.Ordered.{Ascend, ascends_all, from_inserted, from_offered, none}
use Rattle.pictures.proofs.OfSteps.RowTexts.{less_inserted, more_inserted, same, same_inserted}
use Rattle.pictures.proofs.OfSteps.Standings.{is_found}

-- ---- one that isn't there is one more

none_less : (i : ℤ) → int_lt i i ≡ true → ⊥
none_less i is = grind (arith, common_steps)

new_by : (x : ℤ) (xs : List ℤ) (i : ℤ) (b : Bool) → int_lt x i ≡ false → int_lt i x ≡ b → (Contains (x ∷ xs) i → ⊥) →
    length (inserted i (x ∷ xs)) ≡ length (x ∷ xs) + 1
new_by x xs i true less more no_one = let is = ap length (more_inserted x xs i less more) in omega (arith, is)
new_by x xs i false less more no_one =
    let is : x ≡ i = (Decides-int_eq x i).0 (same x i less more) in
    absurd (no_one (subst (λ y. Contains (y ∷ xs) i) (sym is) (first i xs)))

new_at : (x : ℤ) (xs : List ℤ) (i : ℤ) (b : Bool) → ((Contains xs i → ⊥) → length (inserted i xs) ≡ length xs + 1) → int_lt x i ≡ b →
    (Contains (x ∷ xs) i → ⊥) → length (inserted i (x ∷ xs)) ≡ length (x ∷ xs) + 1
new_at x xs i true rest less no_one =
    let more = rest (λ c. no_one (further x i xs c)) in
    let is = ap length (less_inserted x xs i less) in
    omega (arith, is, more)
new_at x xs i false rest less no_one = new_by x xs i (int_lt i x) less refl no_one

is_new : (xs : List ℤ) (i : ℤ) → (Contains xs i → ⊥) → length (inserted i xs) ≡ length xs + 1
is_new [] i no_one = omega arith
is_new (x ∷ xs) i no_one = new_at x xs i (int_lt x i) (is_new xs i) refl no_one

longer_by : (x : ℤ) (xs : List ℤ) (i : ℤ) (b : Bool) → int_lt x i ≡ false → int_lt i x ≡ b →
    length (x ∷ xs) ≤ length (inserted i (x ∷ xs))
longer_by x xs i true less more = let is = ap length (more_inserted x xs i less more) in omega (arith, is)
longer_by x xs i false less more = let is = ap length (same_inserted x xs i less more) in omega (arith, is)

longer_at : (x : ℤ) (xs : List ℤ) (i : ℤ) (b : Bool) → length xs ≤ length (inserted i xs) → int_lt x i ≡ b →
    length (x ∷ xs) ≤ length (inserted i (x ∷ xs))
longer_at x xs i true rest less = let is = ap length (less_inserted x xs i less) in omega (arith, is, rest)
longer_at x xs i false rest less = longer_by x xs i (int_lt i x) less refl

longer : (xs : List ℤ) (i : ℤ) → length xs ≤ length (inserted i xs)
longer [] i = omega arith
longer (x ∷ xs) i = longer_at x xs i (int_lt x i) (longer xs i) refl

-- ascending ones that aren't there are so many more
grows : (xs is : List ℤ) → Ascend is → ((j : ℤ) → Contains is j → Contains xs j → ⊥) → length xs + length is ≤ 64 →
    length (with_all xs is) ≡ length xs + length is
grows xs [] a apart room = omega arith
grows xs (i ∷ is) a apart room =
    let one = is_new xs i (apart i (first i is)) in
    let whole : offered 64 xs i ≡ inserted i xs = take_all 64 (inserted i xs) (omega (arith, one, room)) in
    let long = ap length whole in
    let rest = grows (offered 64 xs i) is a.1
    (λ j there here. ⊎_elim
    (λ (is_it : i ≡ j). none_less j (subst (λ y. int_lt y j ≡ true) is_it (a.0 j there)))
    (λ (old : Contains xs j). apart j (further i j is there) old)
    (from_inserted xs i j (subst (λ ys. Contains ys j) whole here)))
    (omega (arith, one, long, room)) in
    omega (arith, rest, one, long)

-- ---- those that act have a row, or all rows are taken

full_stays : (most : ℕ) (xs : List ℤ) (i : ℤ) → length xs ≡ most → length (offered most xs i) ≡ most
full_stays most xs i full = let more = longer xs i in length-take-le most (inserted i xs) (omega (arith, full, more))

taken_or_full : (most : ℕ) (xs : List ℤ) (i j : ℤ) → Contains (inserted i xs) j →
    Contains (offered most xs i) j ⊎ (length (offered most xs i) ≡ most)
taken_or_full most xs i j c = ⊎_elim
    (λ (over : most < length (inserted i xs)). inr (length-take-le most (inserted i xs) (omega (arith, over))))
    (λ (room : length (inserted i xs) ≤ most). inl (subst (λ ys. Contains ys j) (sym (take_all most (inserted i xs) room)) c))
    (cases_lt most (length (inserted i xs)))

module _ (those : List ℤ) where
  abbrev Full : List ℤ → Type 0
  Full xs = length xs ≡ 64 - length those

  full_beside : (xs : List ℤ) (i : ℤ) (b : Bool) → nat_lt (place_of those i) (length those) ≡ b → Full xs →
      Full (offered_beside those xs i)
  full_beside xs i true is full = let at : offered_beside those xs i ≡ xs = rw is in ap length at ∙ full
  full_beside xs i false is full =
      let at : offered_beside those xs i ≡ offered (64 - length those) xs i =
      rw is in ap length at ∙ full_stays (64 - length those) xs i full

  full_others : (xs is : List ℤ) → Full xs → Full (with_others those xs is)
  full_others xs [] full = full
  full_others xs (i ∷ is) full =
      full_others (offered_beside those xs i) is (full_beside xs i (nat_lt (place_of those i) (length those)) refl full)

  kept_beside : (xs : List ℤ) (i j : ℤ) (b : Bool) → nat_lt (place_of those i) (length those) ≡ b → Contains xs j →
      Contains (offered_beside those xs i) j ⊎ Full (offered_beside those xs i)
  kept_beside xs i j true is c =
      let at : offered_beside those xs i ≡ xs = rw is in inl (subst (λ ys. Contains ys j) (sym at) c)
  kept_beside xs i j false is c =
      let at : offered_beside those xs i ≡ offered (64 - length those) xs i = rw is in
      subst (λ ys. Contains ys j ⊎ Full ys) (sym at) (taken_or_full (64 - length those) xs i j (is_kept xs i j c))

  kept_others : (xs is : List ℤ) (j : ℤ) → Contains xs j → Contains (with_others those xs is) j ⊎ Full (with_others those xs is)
  kept_others xs [] j c = inl c
  kept_others xs (i ∷ is) j c = ⊎_elim
      (λ (here : Contains (offered_beside those xs i) j). kept_others (offered_beside those xs i) is j here)
      (λ (full : Full (offered_beside those xs i)). inr (full_others (offered_beside those xs i) is full))
      (kept_beside xs i j (nat_lt (place_of those i) (length those)) refl c)

  new_beside : (xs : List ℤ) (i : ℤ) (b : Bool) → nat_lt (place_of those i) (length those) ≡ b →
      (place_of those i < length those) ⊎ (Contains (offered_beside those xs i) i ⊎ Full (offered_beside those xs i))
  new_beside xs i true is = inl (grind (arith, common_steps))
  new_beside xs i false is =
      let at : offered_beside those xs i ≡ offered (64 - length those) xs i = rw is in
      inr (subst (λ ys. Contains ys i ⊎ Full ys) (sym at) (taken_or_full (64 - length those) xs i i (is_inserted xs i)))

  covers_at : (xs : List ℤ) (i : ℤ) (is : List ℤ) (j : ℤ) (k : ℕ) →
      ((ys : List ℤ) → Contains is j →
      (place_of those j < length those) ⊎ (Contains (with_others those ys is) j ⊎ Full (with_others those ys is))) →
      k < length (i ∷ is) → get_or (i ∷ is) k j ≡ j →
      (place_of those j < length those) ⊎ (Contains (with_others those xs (i ∷ is)) j ⊎ Full (with_others those xs (i ∷ is)))
  covers_at xs i is j zero rest within found =
      let ys = offered_beside those xs i in
      ⊎_elim
      (λ (that : place_of those j < length those). inl that)
      (λ (new : Contains ys j ⊎ Full ys). inr (⊎_elim (λ (here : Contains ys j). kept_others ys is j here)
      (λ (full : Full ys). inr (full_others ys is full)) new))
      (subst (λ y. (place_of those y < length those) ⊎ (Contains ys y ⊎ Full ys)) found
      (new_beside xs i (nat_lt (place_of those i) (length those)) refl))
  covers_at xs i is j (suc k) rest within found =
      let inner : k < length is = omega (arith, within) in rest (offered_beside those xs i) (k, inner, found)

  covers : (is : List ℤ) (j : ℤ) (xs : List ℤ) → Contains is j →
      (place_of those j < length those) ⊎ (Contains (with_others those xs is) j ⊎ Full (with_others those xs is))
  covers [] j xs c = absurd (none j c)
  covers (i ∷ is) j xs c = covers_at xs i is j c.0 (covers is j) c.1 c.2

  -- the others are none of those
  apart_beside : (xs : List ℤ) (i j : ℤ) (b : Bool) → nat_lt (place_of those i) (length those) ≡ b → (Contains xs j →
      Contains those j → ⊥) →
      Contains (offered_beside those xs i) j → Contains those j → ⊥
  apart_beside xs i j true is rest c that =
      let at : offered_beside those xs i ≡ xs = rw is in rest (subst (λ ys. Contains ys j) at c) that
  apart_beside xs i j false is rest c that =
      let at : offered_beside those xs i ≡ offered (64 - length those) xs i = rw is in
      ⊎_elim
      (λ (is_it : i ≡ j). (
      let there : place_of those i < length those = is_found those i (subst (λ y. Contains those y) (sym is_it) that) in
      grind (arith, common_steps)))
      (λ (old : Contains xs j). rest old that)
      (from_offered (64 - length those) xs i j (subst (λ ys. Contains ys j) at c))

  apart : (xs is : List ℤ) (j : ℤ) → (Contains xs j → Contains those j → ⊥) → Contains (with_others those xs is) j → Contains those j → ⊥
  apart xs [] j rest c that = rest c that
  apart xs (i ∷ is) j rest c that =
      apart (offered_beside those xs i) is j (λ here. apart_beside xs i j (nat_lt (place_of those i) (length those)) refl rest here) c that

-- what has a place is there
placed_by : (x : ℤ) (xs : List ℤ) (i : ℤ) (b : Bool) → (place_of xs i < length xs → Contains xs i) → int_eq x i ≡ b →
    place_of (x ∷ xs) i < length (x ∷ xs) → Contains (x ∷ xs) i
placed_by x xs i true rest same within =
    let is : x ≡ i = (Decides-int_eq x i).0 same in subst (λ y. Contains (y ∷ xs) i) (sym is) (first i xs)
placed_by x xs i false rest same within =
    let at : place_of (x ∷ xs) i ≡ 1 + place_of xs i = rw same in further x i xs (rest (omega (arith, at, within)))

placed : (xs : List ℤ) (i : ℤ) → place_of xs i < length xs → Contains xs i
placed [] i within = absurd (omega (arith, within))
placed (x ∷ xs) i within = placed_by x xs i (int_eq x i) (placed xs i) refl within

pub all_have_rows : (es : List Entry) (i : ℤ) → length (rows_of es) < 64 → Contains (acting_drawn es) i → Contains (rows_of es) i
all_have_rows es i left c =
    let those = with_all [] (met_of es) in
    let others = with_others those [] (acting_drawn es) in
    let small : length those ≤ 64 = all_few [] (met_of es) (omega arith) in
    let fit : length others ≤ 64 - length those = others_few those [] (acting_drawn es) (omega arith) in
    let room : length others + length those ≤ 64 = omega (arith, small, fit) in
    let sum = grows others those (ascends_all [] (met_of es) tt)
    (λ j that other. apart those [] (acting_drawn es) j (λ no_one. absurd (none j no_one)) other that) room in
    ⊎_elim
    (λ (that : place_of those i < length those). comes those i others room (placed those i that))
    (λ (either : Contains others i ⊎ (length others ≡ 64 - length those)). ⊎_elim
    (λ (other : Contains others i). stays others those i room other)
    (λ (full : length others ≡ 64 - length those). absurd (omega (arith, left, sum, full, small)))
    either)
    (covers those (acting_drawn es) i [] c)
