-- Lists that get nearer to 0.
use Rattle.std.proofs.Common.{◌≡◌, ◌∙◌, ◌⊎◌, inl, inr, ℕ, zero, suc, ◌+◌, ◌<◌, ◌≤◌, Bool, true, false, cond, Some, None, List, [], ◌∷◌}
use Rattle.std.proofs.Common.{ℤ, pos, negsuc, ◌-ℤ◌, nat_abs, length, map, drop, set, get_or, refl, sym, ap, subst, arith}
use Rattle.std.proofs.lemmas.Bool.{cases_lt}
use Rattle.std.proofs.lemmas.Int.{ints}
use Rattle.std.proofs.lemmas.List.Elements.{All-append, All-cons, All-head, All-nil, All-tail}
use Rattle.std.proofs.lemmas.List.FromFn.{get_or-range_with_len, length-range_with_len}
use Rattle.std.proofs.lemmas.List.Sums.{sum_by-set}
use Rattle.std.specs.Int.{int_signum}
use Rattle.std.specs.List.{All, find, flat_map, range_with_len}
use Rattle.std.specs.Option.{option_map, option_or}
use Rattle.std.specs.Prelude.{int_div, slice_get}
use Rattle.scopes.specs.Shrunk.{ShrinksTo, Stays, Shrinks, distance, nearer, nearer_at, smaller}
use Rattle.scopes.proofs.Lists.{at_get, drop_over, find_append, find_behind, find_here, flat_from}

-- ---- one place

pub set_back : (xs : List ℤ) (i : ℕ) (x d : ℤ) → set (set xs i x) i (get_or xs i d) ≡ xs
set_back [] zero x d = refl
set_back [] (suc i) x d = refl
set_back (y ∷ ys) zero x d = refl
set_back (y ∷ ys) (suc i) x d = ap (λ zs. y ∷ zs) (set_back ys i x d)

get_mapped : {X Y : Type 0} (f : X → Y) (xs : List X) (i : ℕ) → slice_get (map f xs) i ≡ option_map f (slice_get xs i)
get_mapped f [] zero = refl
get_mapped f [] (suc i) = refl
get_mapped f (x ∷ xs) zero = refl
get_mapped f (x ∷ xs) (suc i) = get_mapped f xs i

-- the candidate of that number
pub candidate : (xs ys : List ℤ) (k which : ℕ) (v : ℤ) → slice_get (nearer (get_or xs k (pos 0))) which ≡ Some v → ys ≡ set xs k v →
    slice_get (nearer_at xs k) which ≡ Some ys
candidate xs ys k which v at is =
    get_mapped (set xs k) (nearer (get_or xs k (pos 0))) which ∙ ap (option_map (set xs k)) at ∙ ap Some (sym is)

-- it is the first that is wanted
pub taken : (wanted : List ℤ → Bool) (xs ys : List ℤ) (k which : ℕ) (v : ℤ) → slice_get (nearer (get_or xs k (pos 0))) which ≡ Some v →
    ys ≡ set xs k v → wanted ys ≡ true → find wanted (drop which (nearer_at xs k)) ≡ find wanted (nearer_at xs k) →
    find wanted (nearer_at xs k) ≡ Some ys
taken wanted xs ys k which v at is wants left =
    sym left ∙ find_here wanted (nearer_at xs k) which ys (candidate xs ys k which v at is) wants

-- it isn't wanted
pub passed_by : (wanted : List ℤ → Bool) (xs : List ℤ) (k which : ℕ) (v : ℤ) → slice_get (nearer (get_or xs k (pos 0))) which ≡ Some v →
    wanted (set xs k v) ≡ false → find wanted (drop which (nearer_at xs k)) ≡ find wanted (nearer_at xs k) →
    find wanted (drop (which + 1) (nearer_at xs k)) ≡ find wanted (nearer_at xs k)
passed_by wanted xs k which v at refuses left =
    let up : which + 1 ≡ suc which = omega arith in
    ap (λ i. find wanted (drop i (nearer_at xs k))) up
    ∙ sym (find_behind wanted (nearer_at xs k) which (set xs k v) (candidate xs (set xs k v) k which v at refl) refuses) ∙ left

-- ---- all places

number_at : (n k : ℕ) → k < n → slice_get (range_with_len 0 n) k ≡ Some k
number_at n k lt =
    let rs = range_with_len 0 n in
    let many : length rs ≡ n = length-range_with_len 0 n in
    let up : 0 + k ≡ k = omega arith in
    at_get rs k 0 (omega (arith, many)) ∙ ap Some (get_or-range_with_len 0 n k 0 lt ∙ up)

-- the lists of a place, and those of the places behind
place_first : (wanted : List ℤ → Bool) (xs : List ℤ) (k : ℕ) → k < length xs →
    find wanted (flat_map (nearer_at xs) (drop k (range_with_len 0 (length xs))))
    ≡ option_or (find wanted (nearer_at xs k)) (find wanted (flat_map (nearer_at xs) (drop (k + 1) (range_with_len 0 (length xs)))))
place_first wanted xs k lt =
    let rs = range_with_len 0 (length xs) in
    let up : suc k ≡ k + 1 = omega arith in
    ap (find wanted) (flat_from (nearer_at xs) rs k k (number_at (length xs) k lt))
    ∙ find_append wanted (nearer_at xs k) (flat_map (nearer_at xs) (drop (suc k) rs))
    ∙ ap (λ i. option_or (find wanted (nearer_at xs k)) (find wanted (flat_map (nearer_at xs) (drop i rs)))) up

pub found_there : (wanted : List ℤ → Bool) (xs ys : List ℤ) (k : ℕ) → k < length xs →
    find wanted (flat_map (nearer_at xs) (drop k (range_with_len 0 (length xs)))) ≡ find wanted (smaller xs) →
    find wanted (nearer_at xs k) ≡ Some ys → find wanted (smaller xs) ≡ Some ys
found_there wanted xs ys k lt left here =
    let rs = range_with_len 0 (length xs) in
    sym left ∙ place_first wanted xs k lt
    ∙ ap (λ o. option_or o (find wanted (flat_map (nearer_at xs) (drop (k + 1) rs)))) here

pub none_there : (wanted : List ℤ → Bool) (xs : List ℤ) (k : ℕ) → k < length xs →
    find wanted (flat_map (nearer_at xs) (drop k (range_with_len 0 (length xs)))) ≡ find wanted (smaller xs) →
    find wanted (nearer_at xs k) ≡ None →
    find wanted (flat_map (nearer_at xs) (drop (k + 1) (range_with_len 0 (length xs)))) ≡ find wanted (smaller xs)
none_there wanted xs k lt left here =
    let rs = range_with_len 0 (length xs) in
    sym (place_first wanted xs k lt
    ∙ ap (λ o. option_or o (find wanted (flat_map (nearer_at xs) (drop (k + 1) rs)))) here) ∙ left

pub none_anywhere : (wanted : List ℤ → Bool) (xs : List ℤ) (k : ℕ) → length xs ≤ k →
    find wanted (flat_map (nearer_at xs) (drop k (range_with_len 0 (length xs)))) ≡ find wanted (smaller xs) →
    find wanted (smaller xs) ≡ None
none_anywhere wanted xs k le left =
    let rs = range_with_len 0 (length xs) in
    let many : length rs ≡ length xs = length-range_with_len 0 (length xs) in
    sym left ∙ ap (λ ks. find wanted (flat_map (nearer_at xs) ks)) (drop_over rs k (omega (arith, many)))

-- ---- how far they are from 0

-- what all have, the first that is wanted has; and it is wanted
has_step : {X : Type 0} (test : X → Bool) (P : X → Type 0) (x : X) (xs : List X) (y : X) (b : Bool) → test x ≡ b → P x →
    (find test xs ≡ Some y → P y × (test y ≡ true)) → cond b (Some x) (find test xs) ≡ Some y → P y × (test y ≡ true)
has_step test P x xs y true e here more h = let same : x ≡ y = cc h in (subst P same here, ap test (sym same) ∙ e)
has_step test P x xs y false e here more h = more h

pub find_has : {X : Type 0} (test : X → Bool) (P : X → Type 0) (xs : List X) (y : X) → All P xs → find test xs ≡ Some y →
    P y × (test y ≡ true)
find_has test P [] y all is = absurd (let Q : None ≡ Some y → ⊥ = λ k. cc in Q is)
find_has test P (x ∷ xs) y all is =
    has_step test P x xs y (test x) refl (All-head P x xs all) (find_has test P xs y (All-tail P x xs all)) is

-- none is wanted where the first isn't there
none_step : {X : Type 0} (test : X → Bool) (x : X) (xs : List X) (b : Bool) → test x ≡ b →
    (find test xs ≡ None → All (λ y. test y ≡ false) xs) → cond b (Some x) (find test xs) ≡ None → All (λ y. test y ≡ false) (x ∷ xs)
none_step test x xs true e more h = absurd (let Q : Some x ≡ None → ⊥ = λ k. cc in Q h)
none_step test x xs false e more h = All-cons (λ y. test y ≡ false) x xs e (more h)

pub find_none : {X : Type 0} (test : X → Bool) (xs : List X) → find test xs ≡ None → All (λ x. test x ≡ false) xs
find_none test [] is = All-nil (λ x. test x ≡ false)
find_none test (x ∷ xs) is = none_step test x xs (test x) refl (find_none test xs) is

pub flat_all : {X Y : Type 0} (P : Y → Type 0) (f : X → List Y) (xs : List X) → ((x : X) → All P (f x)) → All P (flat_map f xs)
flat_all P f [] h = All-nil P
flat_all P f (x ∷ xs) h = All-append P (f x) (flat_map f xs) (h x) (flat_all P f xs h)

-- values nearer to 0 are so
values_nearer : (x : ℤ) → All (λ (v : ℤ). nat_abs v < nat_abs x) (nearer x)
values_nearer x = by x
  where
    three : (P : ℤ → Type 0) (a b c : ℤ) → P a → P b → P c → All P (a ∷ (b ∷ (c ∷ [])))
    three P a b c h k l = All-cons P a (b ∷ (c ∷ [])) h (All-cons P b (c ∷ []) k (All-cons P c [] l (All-nil P)))

    by : (x : ℤ) → All (λ (v : ℤ). nat_abs v < nat_abs x) (nearer x)
    by (pos zero) = All-nil (λ (v : ℤ). nat_abs v < nat_abs (pos zero))
    by (pos (suc n)) =
        let x : ℤ = pos (suc n) in
        three (λ (v : ℤ). nat_abs v < nat_abs x) (pos 0) (int_div x (pos 2)) (x -ℤ int_signum x) (omega arith) (grind (arith, ints))
        (grind (arith, ints))
    by (negsuc n) =
        let x : ℤ = negsuc n in
        three (λ (v : ℤ). nat_abs v < nat_abs x) (pos 0) (int_div x (pos 2)) (x -ℤ int_signum x) (omega arith) (grind (arith, ints))
        (grind (arith, ints))

-- a list with such a value is nearer
set_nearer : (xs : List ℤ) (k : ℕ) (v : ℤ) → k < length xs → nat_abs v < nat_abs (get_or xs k (pos 0)) → distance (set xs k v) < distance xs
set_nearer xs k v lt less =
    let is = sum_by-set nat_abs xs k v (pos 0) lt in
    omega (arith, is, less)

all_mapped : {X Y : Type 0} (P : X → Type 0) (Q : Y → Type 0) (f : X → Y) (xs : List X) → ((x : X) → P x → Q (f x)) → All P xs →
    All Q (map f xs)
all_mapped P Q f [] h all = All-nil Q
all_mapped P Q f (x ∷ xs) h all =
    All-cons Q (f x) (map f xs) (h x (All-head P x xs all)) (all_mapped P Q f xs h (All-tail P x xs all))

past_end : (xs : List ℤ) (k : ℕ) → length xs ≤ k → get_or xs k (pos 0) ≡ pos 0
past_end [] zero le = refl
past_end [] (suc k) le = refl
past_end (x ∷ xs) zero le = absurd (omega (arith, le))
past_end (x ∷ xs) (suc k) le = past_end xs k (omega (arith, le))

place_nearer : (xs : List ℤ) (k : ℕ) → All (λ (ys : List ℤ). distance ys < distance xs) (nearer_at xs k)
place_nearer xs k = by (cases_lt k (length xs))
  where
    by : (k < length xs) ⊎ (length xs ≤ k) → All (λ (ys : List ℤ). distance ys < distance xs) (nearer_at xs k)
    by (inl lt) =
        let x = get_or xs k (pos 0) in
        all_mapped (λ (v : ℤ). nat_abs v < nat_abs x) (λ (ys : List ℤ). distance ys < distance xs) (set xs k) (nearer x)
        (λ v less. set_nearer xs k v lt less) (values_nearer x)
    by (inr le) =
        subst (λ (x : ℤ). All (λ (ys : List ℤ). distance ys < distance xs) (map (set xs k) (nearer x))) (sym (past_end xs k le))
        (All-nil (λ (ys : List ℤ). distance ys < distance xs))

-- all smaller lists are nearer to 0
pub all_nearer : (xs : List ℤ) → All (λ (ys : List ℤ). distance ys < distance xs) (smaller xs)
all_nearer xs = flat_all (λ (ys : List ℤ). distance ys < distance xs) (nearer_at xs) (range_with_len 0 (length xs)) (place_nearer xs)

pub first_nearer : (wanted : List ℤ → Bool) (xs ys : List ℤ) → find wanted (smaller xs) ≡ Some ys → distance ys < distance xs
first_nearer wanted xs ys is = (find_has wanted (λ (zs : List ℤ). distance zs < distance xs) (smaller xs) ys (all_nearer xs) is).0

-- ---- step by step

-- what the second list shrinks to, the first one does
abbrev pub LeadsOn : (wanted : List ℤ → Bool) → List ℤ → List ℤ → Type 0
LeadsOn wanted xs ys = (zs : List ℤ) → ShrinksTo wanted ys zs → ShrinksTo wanted xs zs

pub leads_further : (wanted : List ℤ → Bool) (xs ys zs : List ℤ) → LeadsOn wanted xs ys → find wanted (smaller ys) ≡ Some zs →
    LeadsOn wanted xs zs
leads_further wanted xs ys zs lead is = λ us h. lead us (Shrinks ys zs us is h)

pub leads_there : (wanted : List ℤ → Bool) (xs ys zs : List ℤ) → LeadsOn wanted xs ys → zs ≡ ys → find wanted (smaller ys) ≡ None →
    ShrinksTo wanted xs zs
leads_there wanted xs ys zs lead same none = subst (ShrinksTo wanted xs) (sym same) (lead ys (Stays ys none))
