-- Lists in which no value stands twice.
use Rattle.std.proofs.Common.{◌≡◌, ◌&&◌, ◌||◌, ℕ, ◌+◌, ◌<◌, Bool, true, false, not, List, [], ◌∷◌, ◌++◌, ℤ, pos, negsuc, length, get_or}
use Rattle.std.proofs.Common.{take, refl, ap, sym, subst, ◌∙◌, arith}
use Rattle.std.proofs.lemmas.Bool.Decides.{nat_tests}
use Rattle.std.proofs.lemmas.List.{take_more}
use Rattle.std.specs.List.{list_any}
use Rattle.scopes.specs.Lists.{are_apart, same_value}

pub same_is : (x y : ℤ) → same_value x y ≡ true → x ≡ y
same_is (pos a) (pos b) h = ap pos (grind (arith, nat_tests))
same_is (pos a) (negsuc b) h = cc
same_is (negsuc a) (pos b) h = cc
same_is (negsuc a) (negsuc b) h = ap negsuc (grind (arith, nat_tests))

itself : (x : ℤ) → same_value x x ≡ true
itself (pos a) = grind (arith, nat_tests)
itself (negsuc a) = grind (arith, nat_tests)

pub is_same : (x y : ℤ) → x ≡ y → same_value x y ≡ true
is_same x y e = subst (λ (z : ℤ). same_value x z ≡ true) e (itself x)

pub other_way : (x y : ℤ) → same_value x y ≡ same_value y x
other_way (pos a) (pos b) = grind (arith, nat_tests)
other_way (pos a) (negsuc b) = refl
other_way (negsuc a) (pos b) = refl
other_way (negsuc a) (negsuc b) = grind (arith, nat_tests)

or_false : (a : Bool) → a || false ≡ a
or_false true = refl
or_false false = refl

or_assoc : (a b c : Bool) → a || (b || c) ≡ (a || b) || c
or_assoc true b c = refl
or_assoc false b c = refl

and_false : (a : Bool) → a && false ≡ false
and_false true = refl
and_false false = refl

any_push : (p : ℤ → Bool) (xs : List ℤ) (x : ℤ) → list_any p (xs ++ x ∷ []) ≡ list_any p xs || p x
any_push p [] x = or_false (p x)
any_push p (y ∷ xs) x = ap (λ (b : Bool). p y || b) (any_push p xs x) ∙ or_assoc (p y) (list_any p xs) (p x)

any_more : (p : ℤ → Bool) (xs ys : List ℤ) → list_any p xs ≡ true → list_any p (xs ++ ys) ≡ true
any_more p [] ys h = cc
any_more p (x ∷ xs) ys h = any_step p x xs ys (p x) refl h (any_more p xs ys) where
  any_step : (p : ℤ → Bool) (x : ℤ) (xs ys : List ℤ) (b : Bool) → p x ≡ b → p x || list_any p xs ≡ true →
      (list_any p xs ≡ true → list_any p (xs ++ ys) ≡ true) → p x || list_any p (xs ++ ys) ≡ true
  any_step p x xs ys true e h rest = ap (λ (c : Bool). c || list_any p (xs ++ ys)) e
  any_step p x xs ys false e h rest =
      ap (λ (c : Bool). c || list_any p (xs ++ ys)) e ∙ rest (sym (ap (λ (c : Bool). c || list_any p xs) e) ∙ h)

parted : (a b c d : Bool) → not (a || b) && (c && not d) ≡ (not a && c) && not (b || d)
parted true b c d = refl
parted false true true d = refl
parted false true false d = refl
parted false false true d = refl
parted false false false d = refl

-- a value more: it is not among those before it
pub apart_push : (xs : List ℤ) (x : ℤ) → are_apart (xs ++ x ∷ []) ≡ are_apart xs && not (list_any (λ (v : ℤ). same_value v x) xs)
apart_push [] x = refl
apart_push (y ∷ xs) x =
    let any : ℤ → List ℤ → Bool = λ z zs. list_any (λ (v : ℤ). same_value v z) zs in
    ap (λ (b : Bool). not b && are_apart (xs ++ x ∷ [])) (any_push (λ (v : ℤ). same_value v y) xs x)
    ∙ ap (λ (b : Bool). not (any y xs || same_value x y) && b) (apart_push xs x)
    ∙ parted (any y xs) (same_value x y) (are_apart xs) (any x xs)
    ∙ ap (λ (b : Bool). (not (any y xs) && are_apart xs) && not (b || any x xs)) (other_way x y)

-- what begins with a value that stands twice
pub front_clashes : (xs ys : List ℤ) → are_apart xs ≡ false → are_apart (xs ++ ys) ≡ false
front_clashes [] ys h = cc
front_clashes (x ∷ xs) ys h =
    let p : ℤ → Bool = λ v. same_value v x in
    front_step p xs ys (list_any p xs) refl h (front_clashes xs ys) where
      front_step : (p : ℤ → Bool) (xs ys : List ℤ) (b : Bool) → list_any p xs ≡ b → not (list_any p xs) && are_apart xs ≡ false →
          (are_apart xs ≡ false → are_apart (xs ++ ys) ≡ false) → not (list_any p (xs ++ ys)) && are_apart (xs ++ ys) ≡ false
      front_step p xs ys true e h rest = ap (λ (c : Bool). not c && are_apart (xs ++ ys)) (any_more p xs ys e)
      front_step p xs ys false e h rest =
          let is : are_apart xs ≡ false = sym (ap (λ (c : Bool). not c && are_apart xs) e) ∙ h in
          ap (λ (c : Bool). not (list_any p (xs ++ ys)) && c) (rest is) ∙ and_false (not (list_any p (xs ++ ys)))

-- ---- one place further

pub place_apart : (xs : List ℤ) (at : ℕ) (x : ℤ) → at < length xs → x ≡ get_or xs at x → are_apart (take at xs) ≡ true →
    list_any (λ (v : ℤ). same_value v x) (take at xs) ≡ false → are_apart (take (at + 1) xs) ≡ true
place_apart xs at x lt is front none =
    ap are_apart (take_more xs at x lt) ∙ ap (λ (z : ℤ). are_apart (take at xs ++ z ∷ [])) (sym is) ∙ apart_push (take at xs) x
    ∙ ap (λ (b : Bool). b && not (list_any (λ (v : ℤ). same_value v x) (take at xs))) front ∙ ap not none

pub place_clashes : (xs : List ℤ) (at : ℕ) (x : ℤ) → at < length xs → x ≡ get_or xs at x →
    list_any (λ (v : ℤ). same_value v x) (take at xs) ≡ true → are_apart (take (at + 1) xs) ≡ false
place_clashes xs at x lt is some =
    ap are_apart (take_more xs at x lt) ∙ ap (λ (z : ℤ). are_apart (take at xs ++ z ∷ [])) (sym is) ∙ apart_push (take at xs) x
    ∙ ap (λ (b : Bool). are_apart (take at xs) && not b) some ∙ and_false (are_apart (take at xs))
