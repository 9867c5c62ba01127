-- Which indices have a row.
use Rattle.std.proofs.Common.{◌≡◌, ◌∙◌, ◌<◌, ◌≤◌, ◌+◌, ◌-◌, ◌++◌, ◌∷◌, [], List, ℕ, zero, suc, ℤ, Bool, true, false, ap, arith, drop}
use Rattle.std.proofs.Common.{get_or, length, refl, subst, sym}
use Rattle.std.specs.Prelude.{int_lt, nat_lt}
use Rattle.std.specs.List.{Contains}
use Rattle.std.proofs.lemmas.Bool.Decides.{Decides-int_eq}
use Rattle.std.proofs.lemmas.Grind.{common_steps}
use Rattle.std.proofs.lemmas.List.{length-append, take_all}
use Rattle.journal.specs.Entries.{Entry}
use Rattle.pictures.specs.Steps.Drawn.{acting_drawn, first_met, inserted, met_in, met_of, offered, offered_beside, place_of, rows_of}
use Rattle.pictures.specs.Steps.Drawn.{with_all, with_others}
use Rattle.pictures.proofs.OfSteps.RowTexts.{less_inserted, more_inserted, same, same_inserted}

pub first : {X : Type 0} (x : X) (xs : List X) → Contains (x ∷ xs) x
first x xs = (0, omega arith, refl)

pub further : {X : Type 0} (x y : X) (xs : List X) → Contains xs y → Contains (x ∷ xs) y
further x y xs c = let within = c.1 in (suc c.0, omega (arith, within), c.2)

-- ---- one more among them is there, and those that were stay

here_by : (x : ℤ) (xs : List ℤ) (i : ℤ) (b : Bool) → int_lt x i ≡ false → int_lt i x ≡ b → Contains (inserted i (x ∷ xs)) i
here_by x xs i true less more = subst (λ ys. Contains ys i) (sym (more_inserted x xs i less more)) (first i (x ∷ xs))
here_by x xs i false less more =
    let is : x ≡ i = (Decides-int_eq x i).0 (same x i less more) in
    subst (λ ys. Contains ys i) (sym (same_inserted x xs i less more)) (subst (λ y. Contains (y ∷ xs) i) (sym is) (first i xs))

here_at : (x : ℤ) (xs : List ℤ) (i : ℤ) (b : Bool) → Contains (inserted i xs) i → int_lt x i ≡ b → Contains (inserted i (x ∷ xs)) i
here_at x xs i true rest less =
    subst (λ ys. Contains ys i) (sym (less_inserted x xs i less)) (further x i (inserted i xs) rest)
here_at x xs i false rest less = here_by x xs i (int_lt i x) less refl

pub is_inserted : (xs : List ℤ) (i : ℤ) → Contains (inserted i xs) i
is_inserted [] i = first i []
is_inserted (x ∷ xs) i = here_at x xs i (int_lt x i) (is_inserted xs i) refl

kept_by : (x : ℤ) (xs : List ℤ) (i j : ℤ) (b : Bool) → int_lt x i ≡ false → int_lt i x ≡ b → Contains (x ∷ xs) j →
    Contains (inserted i (x ∷ xs)) j
kept_by x xs i j true less more c = subst (λ ys. Contains ys j) (sym (more_inserted x xs i less more)) (further i j (x ∷ xs) c)
kept_by x xs i j false less more c = subst (λ ys. Contains ys j) (sym (same_inserted x xs i less more)) c

kept_behind : (x : ℤ) (xs : List ℤ) (i j : ℤ) (k : ℕ) → (Contains xs j → Contains (inserted i xs) j) → k < length (x ∷ xs) →
    get_or (x ∷ xs) k j ≡ j → Contains (x ∷ inserted i xs) j
kept_behind x xs i j zero rest within is = subst (λ y. Contains (y ∷ inserted i xs) j) (sym is) (first j (inserted i xs))
kept_behind x xs i j (suc k) rest within is =
    let inner : k < length xs = omega (arith, within) in
    further x j (inserted i xs) (rest (k, inner, is))

kept_at : (x : ℤ) (xs : List ℤ) (i j : ℤ) (b : Bool) → (Contains xs j → Contains (inserted i xs) j) → int_lt x i ≡ b →
    Contains (x ∷ xs) j → Contains (inserted i (x ∷ xs)) j
kept_at x xs i j true rest less c =
    subst (λ ys. Contains ys j) (sym (less_inserted x xs i less)) (kept_behind x xs i j c.0 rest c.1 c.2)
kept_at x xs i j false rest less c = kept_by x xs i j (int_lt i x) less refl c

pub is_kept : (xs : List ℤ) (i j : ℤ) → Contains xs j → Contains (inserted i xs) j
is_kept [] i j c = let within = c.1 in absurd (omega (arith, within))
is_kept (x ∷ xs) i j c = kept_at x xs i j (int_lt x i) (is_kept xs i j) refl c

-- ---- how many there are

long_by : (x : ℤ) (xs : List ℤ) (i : ℤ) (b : Bool) → int_lt x i ≡ false → int_lt i x ≡ b →
    length (inserted i (x ∷ xs)) ≤ length (x ∷ xs) + 1
long_by x xs i true less more = let is = ap length (more_inserted x xs i less more) in omega (arith, is)
long_by x xs i false less more = let is = ap length (same_inserted x xs i less more) in omega (arith, is)

long_at : (x : ℤ) (xs : List ℤ) (i : ℤ) (b : Bool) → length (inserted i xs) ≤ length xs + 1 → int_lt x i ≡ b →
    length (inserted i (x ∷ xs)) ≤ length (x ∷ xs) + 1
long_at x xs i true rest less = let is = ap length (less_inserted x xs i less) in omega (arith, is, rest)
long_at x xs i false rest less = long_by x xs i (int_lt i x) less refl

pub one_more : (xs : List ℤ) (i : ℤ) → length (inserted i xs) ≤ length xs + 1
one_more [] i = omega arith
one_more (x ∷ xs) i = long_at x xs i (int_lt x i) (one_more xs i) refl

pub offered_few : (most : ℕ) (xs : List ℤ) (i : ℤ) → length (offered most xs i) ≤ most
offered_few most xs i = grind (arith, common_steps)

pub all_few : (xs is : List ℤ) → length xs ≤ 64 → length (with_all xs is) ≤ 64
all_few xs [] few = few
all_few xs (i ∷ is) few = all_few (offered 64 xs i) is (offered_few 64 xs i)

beside_few : (those xs : List ℤ) (i : ℤ) (b : Bool) → nat_lt (place_of those i) (length those) ≡ b → length xs ≤ 64 - length those →
    length (offered_beside those xs i) ≤ 64 - length those
beside_few those xs i true is few = rw is few
beside_few those xs i false is few = rw is (offered_few (64 - length those) xs i)

pub others_few : (those xs is : List ℤ) → length xs ≤ 64 - length those → length (with_others those xs is) ≤ 64 - length those
others_few those xs [] few = few
others_few those xs (i ∷ is) few =
    others_few those (offered_beside those xs i) is (beside_few those xs i (nat_lt (place_of those i) (length those)) refl few)

-- ---- where there is room, all stay

whole : (xs : List ℤ) (i : ℤ) → length xs + 1 ≤ 64 → offered 64 xs i ≡ inserted i xs
whole xs i room = let long = one_more xs i in take_all 64 (inserted i xs) (omega (arith, long, room))

pub stays : (xs is : List ℤ) (j : ℤ) → length xs + length is ≤ 64 → Contains xs j → Contains (with_all xs is) j
stays xs [] j room c = c
stays xs (i ∷ is) j room c =
    let same = whole xs i (omega (arith, room)) in
    let long = one_more xs i in
    let same_long = ap length same in
    stays (offered 64 xs i) is j (omega (arith, room, long, same_long)) (subst (λ ys. Contains ys j) (sym same) (is_kept xs i j c))

comes_at : (xs : List ℤ) (i : ℤ) (is : List ℤ) (j : ℤ) (k : ℕ) → length xs + length (i ∷ is) ≤ 64 →
    ((ys : List ℤ) → length ys + length is ≤ 64 → Contains is j → Contains (with_all ys is) j) → k < length (i ∷ is) →
    get_or (i ∷ is) k j ≡ j → Contains (with_all (offered 64 xs i) is) j
comes_at xs i is j zero room rest within found =
    let same = whole xs i (omega (arith, room)) in
    let long = one_more xs i in
    let same_long = ap length same in
    stays (offered 64 xs i) is j (omega (arith, room, long, same_long))
    (subst (λ ys. Contains ys j) (sym same) (subst (λ y. Contains (inserted i xs) y) found (is_inserted xs i)))
comes_at xs i is j (suc k) room rest within found =
    let same = whole xs i (omega (arith, room)) in
    let long = one_more xs i in
    let same_long = ap length same in
    let inner : k < length is = omega (arith, within) in
    rest (offered 64 xs i) (omega (arith, room, long, same_long)) (k, inner, found)

pub comes : (is : List ℤ) (j : ℤ) (xs : List ℤ) → length xs + length is ≤ 64 → Contains is j → Contains (with_all xs is) j
comes [] j xs room c = let within = c.1 in absurd (omega (arith, within))
comes (i ∷ is) j xs room c = comes_at xs i is j c.0 room (comes is j) c.1 c.2

-- ---- those that met at the last statement

last_is : (es : List Entry) (e : Entry) → first_met (drop (length es) (es ++ e ∷ [])) ≡ met_in e
last_is [] e = refl
last_is (x ∷ es) e = last_is es e

pub last_met : (es : List Entry) (e : Entry) → met_of (es ++ e ∷ []) ≡ met_in e
last_met es e =
    let long = length-append es (e ∷ []) in
    let before : length (es ++ e ∷ []) - 1 ≡ length es = omega (arith, long) in
    ap (λ n. first_met (drop n (es ++ e ∷ []))) before ∙ last_is es e

pub has_row : (es : List Entry) (e : Entry) (i : ℤ) → length (met_in e) ≤ 64 → Contains (met_in e) i → Contains (rows_of (es ++ e ∷ [])) i
has_row es e i few c =
    let all = es ++ e ∷ [] in
    let met = last_met es e in
    let those = with_all [] (met_of all) in
    let small : length (met_of all) ≤ 64 = subst (λ is. length is ≤ 64) (sym met) few in
    let among = comes (met_of all) i [] (omega (arith, small)) (subst (λ is. Contains is i) (sym met) c) in
    let least : length those ≤ 64 = all_few [] (met_of all) (omega arith) in
    let rest : length (with_others those [] (acting_drawn all)) ≤ 64 - length those =
    others_few those [] (acting_drawn all) (omega arith) in
    comes those i (with_others those [] (acting_drawn all)) (omega (arith, least, rest)) among
