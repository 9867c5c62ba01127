-- What a list shrinks to.
use Rattle.std.proofs.Common.{◌≡◌, ◌∙◌, ℕ, zero, suc, ◌<◌, ◌≤◌, Bool, true, false, Option, Some, None, List, [], ◌∷◌, ℤ, pos, length, map, set}
use Rattle.std.proofs.Common.{get_or, refl, sym, subst, arith}
use Rattle.std.proofs.lemmas.List.{length-set}
use Rattle.std.proofs.lemmas.List.Elements.{All-cons, All-nil}
use Rattle.std.specs.List.{All, find, range_with_len}
use Rattle.scopes.specs.Shrunk.{ShrinksTo, Stays, Shrinks, distance, nearer, nearer_at, smaller}
use Rattle.scopes.proofs.Nearer.{find_has, find_none, first_nearer, flat_all}

-- ---- there is one

next : (k : ℕ) (wanted : List ℤ → Bool) (xs : List ℤ) (o : Option (List ℤ)) → find wanted (smaller xs) ≡ o →
    ((ys : List ℤ) → distance ys < distance xs → (zs : List ℤ) × ShrinksTo wanted ys zs) → (zs : List ℤ) × ShrinksTo wanted xs zs
next k wanted xs None e more = (xs, Stays xs e)
next k wanted xs (Some ys) e more = let rest = more ys (first_nearer wanted xs ys e) in (rest.0, Shrinks xs ys rest.0 e rest.1)

some_within : (k : ℕ) (wanted : List ℤ → Bool) (xs : List ℤ) → distance xs < k → (zs : List ℤ) × ShrinksTo wanted xs zs
some_within zero wanted xs lt = absurd (omega (arith, lt))
some_within (suc k) wanted xs lt =
    next k wanted xs (find wanted (smaller xs)) refl (λ ys less. some_within k wanted ys (omega (arith, lt, less)))

pub some_there : (wanted : List ℤ → Bool) (xs : List ℤ) → (zs : List ℤ) × ShrinksTo wanted xs zs
some_there wanted xs = some_within (suc (distance xs)) wanted xs (omega arith)

-- ---- and no other

differs : (wanted : List ℤ → Bool) (xs ys : List ℤ) → find wanted (smaller xs) ≡ None → find wanted (smaller xs) ≡ Some ys → ⊥
differs wanted xs ys e f = let P : None ≡ Some ys → ⊥ = λ k. cc in P (sym e ∙ f)

alike : (wanted : List ℤ → Bool) (xs ys zs : List ℤ) → find wanted (smaller xs) ≡ Some ys → find wanted (smaller xs) ≡ Some zs → ys ≡ zs
alike wanted xs ys zs e f = let h : Some ys ≡ Some zs = sym e ∙ f in cc

pub no_other : (wanted : List ℤ → Bool) (xs ys zs : List ℤ) → ShrinksTo wanted xs ys → ShrinksTo wanted xs zs → ys ≡ zs
no_other wanted xs ys zs (Stays _ e) (Stays _ f) = refl
no_other wanted xs ys zs (Stays _ e) (Shrinks _ us _ f h) = absurd (differs wanted xs us e f)
no_other wanted xs ys zs (Shrinks _ us _ e h) (Stays _ f) = absurd (differs wanted xs us f e)
no_other wanted xs ys zs (Shrinks _ us _ e h) (Shrinks _ vs _ f k) =
    no_other wanted us ys zs h (subst (λ (ws : List ℤ). ShrinksTo wanted ws zs) (sym (alike wanted xs us vs e f)) k)

-- ---- what it has

pub keeps_wanted : (wanted : List ℤ → Bool) (xs zs : List ℤ) → ShrinksTo wanted xs zs → wanted xs ≡ true → wanted zs ≡ true
keeps_wanted wanted xs zs (Stays _ e) h = h
keeps_wanted wanted xs zs (Shrinks _ ys _ e k) h =
    keeps_wanted wanted ys zs k (find_has wanted (λ (us : List ℤ). ℕ) (smaller xs) ys (λ i d lt. 0) e).1

pub none_left : (wanted : List ℤ → Bool) (xs zs : List ℤ) → ShrinksTo wanted xs zs → All (λ (ys : List ℤ). wanted ys ≡ false) (smaller zs)
none_left wanted xs zs (Stays _ e) = find_none wanted (smaller xs) e
none_left wanted xs zs (Shrinks _ ys _ e k) = none_left wanted ys zs k

pub no_further : (wanted : List ℤ → Bool) (xs zs : List ℤ) → ShrinksTo wanted xs zs → distance zs ≤ distance xs
no_further wanted xs zs (Stays _ e) = omega arith
no_further wanted xs zs (Shrinks _ ys _ e k) =
    let less = first_nearer wanted xs ys e in
    let rest = no_further wanted ys zs k in
    omega (arith, less, rest)

all_set : (xs : List ℤ) (k : ℕ) (vs : List ℤ) → All (λ (ys : List ℤ). length ys ≡ length xs) (map (set xs k) vs)
all_set xs k [] = All-nil (λ (ys : List ℤ). length ys ≡ length xs)
all_set xs k (v ∷ vs) =
    All-cons (λ (ys : List ℤ). length ys ≡ length xs) (set xs k v) (map (set xs k) vs) (length-set xs k v) (all_set xs k vs)

same_length : (wanted : List ℤ → Bool) (xs ys : List ℤ) → find wanted (smaller xs) ≡ Some ys → length ys ≡ length xs
same_length wanted xs ys e =
    let P : List ℤ → Type 0 = λ us. length us ≡ length xs in
    (find_has wanted P (smaller xs) ys
    (flat_all P (nearer_at xs) (range_with_len 0 (length xs)) (λ k. all_set xs k (nearer (get_or xs k (pos 0))))) e).0

pub as_many : (wanted : List ℤ → Bool) (xs zs : List ℤ) → ShrinksTo wanted xs zs → length zs ≡ length xs
as_many wanted xs zs (Stays _ e) = refl
as_many wanted xs zs (Shrinks _ ys _ e k) = as_many wanted ys zs k ∙ same_length wanted xs ys e
