-- The least of some faults.
use Rattle.std.proofs.Common.{◌≡◌, ◌⊎◌, inl, inr, ℕ, suc, List, [], ◌∷◌, Bool, true, false, ◌||◌, ◌&&◌, if◌then◌else◌, Some, fold, All}
use Rattle.std.proofs.Common.{Contains, nat_lt, nat_eq, subst, refl, ap, sym, ◌∙◌, arith}
use Rattle.pram_values.proofs.PlaceOrder.{never_before_itself, before_is_passed_on, one_is_before}
use Rattle.std.proofs.lemmas.List.Elements.{All-nil, All-cons}
use Rattle.pram_meaning.specs.Conflict.{IsLeast, is_key_before, least, lesser}
use Rattle.pram_meaning.specs.declared.key.Key.{Key}
use Rattle.pram_values.specs.Place.{is_place_before}
use Rattle.pram_values.specs.declared.place.Place.{Place}
use Rattle.pram_model.proofs.Truths.{either}

place_not_by : (p q r : Place) → is_place_before p q ≡ false → is_place_before q r ≡ false → (is_place_before p r ≡ true)
    ⊎ (is_place_before p r ≡ false) → (is_place_before q p ≡ true) ⊎ (is_place_before q p ≡ false) → is_place_before p r ≡ false
place_not_by p q r a b (inr h) k = h
place_not_by p q r a b (inl h) (inl k) = let t : is_place_before q r ≡ true = before_is_passed_on q p r k h in absurd (cc (t, b))
place_not_by p q r a b (inl h) (inr k) = let e : p ≡ q = one_is_before p q a k in ap (λ x. is_place_before x r) e ∙ b

place_not : (p q r : Place) → is_place_before p q ≡ false → is_place_before q r ≡ false → is_place_before p r ≡ false
place_not p q r a b = place_not_by p q r a b (either (is_place_before p r)) (either (is_place_before q p))

pub key_irreflexive : (k : Key) → is_key_before k k ≡ false
key_irreflexive k = let a = never_before_itself k.place in grind (arith, a)

passed : (a b c : ℕ) (p q r : Bool) → (p ≡ true → q ≡ true → r ≡ true) → (nat_lt a b || (nat_eq a b && p)) ≡ true →
    (nat_lt b c || (nat_eq b c && q)) ≡ true → (nat_lt a c || (nat_eq a c && r)) ≡ true
passed a b c true true true i x y = grind arith
passed a b c true true false i x y = absurd (cc (i refl refl))
passed a b c true false true i x y = grind arith
passed a b c true false false i x y = grind arith
passed a b c false true true i x y = grind arith
passed a b c false true false i x y = grind arith
passed a b c false false true i x y = grind arith
passed a b c false false false i x y = grind arith

not_passed : (a b c : ℕ) (p q r : Bool) → (p ≡ false → q ≡ false → r ≡ false) → (nat_lt a b || (nat_eq a b && p)) ≡ false →
    (nat_lt b c || (nat_eq b c && q)) ≡ false → (nat_lt a c || (nat_eq a c && r)) ≡ false
not_passed a b c true true true i x y = grind arith
not_passed a b c true true false i x y = grind arith
not_passed a b c true false true i x y = grind arith
not_passed a b c true false false i x y = grind arith
not_passed a b c false true true i x y = grind arith
not_passed a b c false true false i x y = grind arith
not_passed a b c false false true i x y = absurd (cc (i refl refl))
not_passed a b c false false false i x y = grind arith

pub key_passed_on : (j k m : Key) → is_key_before j k ≡ true → is_key_before k m ≡ true → is_key_before j m ≡ true
key_passed_on j k m a b =
    passed j.at k.at m.at (is_place_before j.place k.place) (is_place_before k.place m.place) (is_place_before j.place m.place)
    (before_is_passed_on j.place k.place m.place) a b

key_not : (j k m : Key) → is_key_before j k ≡ false → is_key_before k m ≡ false → is_key_before j m ≡ false
key_not j k m a b =
    not_passed j.at k.at m.at (is_place_before j.place k.place) (is_place_before k.place m.place) (is_place_before j.place m.place)
    (place_not j.place k.place m.place) a b

contains_first : (k : Key) (ks : List Key) → Contains (k ∷ ks) k
contains_first k ks = (0, omega arith, refl)

contains_behind : (k : Key) (ks : List Key) (m : Key) → Contains ks m → Contains (k ∷ ks) m
contains_behind k ks m c = let l = c.1 in (suc c.0, omega arith, c.2)

-- ---- what a fold from k on comes to

record IsLeastFrom (k : Key) (ks : List Key) (m : Key) : Type 0 where
  pub here : (m ≡ k) ⊎ Contains ks m
  pub start : is_key_before k m ≡ false
  pub rest : All (λ j. is_key_before j m ≡ false) ks

taken : (k j m : Key) (ks : List Key) → IsLeastFrom j ks m → is_key_before j k ≡ true → (is_key_before k m ≡ true)
    ⊎ (is_key_before k m ≡ false) → IsLeastFrom k (j ∷ ks) m
taken k j m ks l h (inl b) = let t : is_key_before j m ≡ true = key_passed_on j k m h b in let f = l.start in absurd (cc (t, f))
taken k j m ks l h (inr b) = record {
  here = inr (elim l.here [ inl e ↦ subst (Contains (j ∷ ks)) (sym e) (contains_first j ks) | inr c ↦ contains_behind j ks m c ]);
  start = b;
  rest = All-cons (λ j. is_key_before j m ≡ false) j ks l.start l.rest;
}

left : (k j m : Key) (ks : List Key) → IsLeastFrom k ks m → is_key_before j k ≡ false → IsLeastFrom k (j ∷ ks) m
left k j m ks l h = record {
  here = elim l.here [ inl e ↦ inl e | inr c ↦ inr (contains_behind j ks m c) ];
  start = l.start;
  rest = All-cons (λ j. is_key_before j m ≡ false) j ks (key_not j k m h l.start) l.rest;
}

abbrev Comes : Key → List Key → Type 0
Comes k ks = (m : Key) × (fold lesser (Some k) ks ≡ Some m) × IsLeastFrom k ks m

comes_by : (k j : Key) (ks : List Key) → ((k : Key) → Comes k ks) → (is_key_before j k ≡ true) ⊎ (is_key_before j k ≡ false) →
    Comes k (j ∷ ks)
comes_by k j ks rest (inl h) =
    let r = rest j in
    (r.0, ap (λ c. fold lesser (if c then Some j else Some k) ks) h ∙ r.1, taken k j r.0 ks r.2 h (either (is_key_before k r.0)))
comes_by k j ks rest (inr h) =
    let r = rest k in
    (r.0, ap (λ c. fold lesser (if c then Some j else Some k) ks) h ∙ r.1, left k j r.0 ks r.2 h)

comes : (ks : List Key) (k : Key) → Comes k ks
comes [] k = (k, refl, record { here = inl refl; start = key_irreflexive k; rest = All-nil (λ j. is_key_before j k ≡ false) })
comes (j ∷ ks) k = comes_by k j ks (comes ks) (either (is_key_before j k))

whole : (k m : Key) (ks : List Key) → IsLeastFrom k ks m → IsLeast (k ∷ ks) (Some m)
whole k m ks l = (
  elim l.here [ inl e ↦ subst (Contains (k ∷ ks)) (sym e) (contains_first k ks) | inr c ↦ contains_behind k ks m c ],
  All-cons (λ j. is_key_before j m ≡ false) k ks l.start l.rest,
)

pub least_is_least : (ks : List Key) → IsLeast ks (least ks)
least_is_least [] = refl
least_is_least (k ∷ ks) = let r = comes ks k in subst (IsLeast (k ∷ ks)) (sym r.1) (whole k r.0 ks r.2)
