-- Writes that are summed carry their rule.
use Rattle.std.proofs.Common.{◌≡◌, ◌≢◌, ◌⊎◌, inl, inr, ℕ, suc, ◌+◌, ◌-◌, ◌*◌, ◌^◌, ◌<◌, ◌≤◌, List, [], ◌∷◌, map, fold, length, get_or, eqb}
use Rattle.std.proofs.Common.{◌||◌, true, false, if◌then◌else◌, ℤ, pos, negsuc, neg_ℤ, ◌+ℤ◌, ◌≤ℤ◌, ◌<ℤ◌, int_le, ap, sym, ◌∙◌, subst}
use Rattle.std.proofs.Common.{FitsSigned, All, AllPairs, arith}
use Rattle.std.specs.Int.{w64, w128, int_wrap}
use Rattle.std.proofs.lemmas.Int.{ints, int_wrap_fits, int_wrap-add_left, int_wrap-add_right}
use Rattle.std.proofs.lemmas.List.{length-map, get_or-map}
use Rattle.std.proofs.lemmas.Bool.Decides.{Decides-eqb, eqb_tells}
use Rattle.std.proofs.lemmas.Map.Made.{IsDistinct-from_AllPairs}
use Rattle.std.proofs.lemmas.Map.Steps.{length-le_from_distinct_below}
use Rattle.std.specs.List.{list_any}
use Rattle.pram_model.specs.declared.rule.Rule.TheVariants.{Sum}
use Rattle.pram_values.specs.Value.{checked}
use Rattle.write_rules.specs.declared.entry.Entry.{Entry}
use Rattle.write_rules.specs.declared.write.Write.{Write}
use Rattle.write_rules.specs.Rule.{sum_of}
use Rattle.write_rules.specs.Combining.{entry_of, AreWriters, Carries, summed}

-- ---- joining

least_associates : (x y z : ℤ) →
    (if int_le (if int_le x y then x else y) z then (if int_le x y then x else y) else z) ≡ (if int_le x (if int_le y z then y else z) then
    x else (if int_le y z then y else z))
least_associates x y z = grind (arith, ints)

least_commutes : (x y : ℤ) → (if int_le x y then x else y) ≡ (if int_le y x then y else x)
least_commutes x y = grind (arith, ints)

wraps_associate : (x y z : ℤ) → int_wrap w128 (int_wrap w128 (x +ℤ y) +ℤ z) ≡ int_wrap w128 (x +ℤ int_wrap w128 (y +ℤ z))
wraps_associate x y z =
    let e : (x +ℤ y) +ℤ z ≡ x +ℤ (y +ℤ z) = omega (arith, ints) in
    int_wrap-add_left w128 (x +ℤ y) z ∙ ap (int_wrap w128) e ∙ sym (int_wrap-add_right w128 x (y +ℤ z))

wraps_commute : (x y : ℤ) → int_wrap w128 (x +ℤ y) ≡ int_wrap w128 (y +ℤ x)
wraps_commute x y = let e : x +ℤ y ≡ y +ℤ x = omega (arith, ints) in ap (int_wrap w128) e

-- ---- the sum

least_value : (v : ℤ) → FitsSigned w64 v → neg_ℤ (pos (2 ^ 63)) ≤ℤ v
least_value (pos n) f = omega (arith, ints)
least_value (negsuc n) f = let h : n < 2 ^ 63 = f.sfits in omega (arith, ints)

most_value : (v : ℤ) → FitsSigned w64 v → v <ℤ pos (2 ^ 63)
most_value (pos n) f = let h : n < 2 ^ 63 = f.sfits in omega (arith, ints)
most_value (negsuc n) f = omega (arith, ints)

in_128 : (z : ℤ) → neg_ℤ (pos (2 ^ 127)) ≤ℤ z → z <ℤ pos (2 ^ 127) → FitsSigned w128 z
in_128 (pos n) a b = record { sfits = omega (arith, ints) }
in_128 (negsuc n) a b = record { sfits = omega (arith, ints) }

-- a sum of k values
record IsWithin (k : ℕ) (z : ℤ) : Type 0 where
  pub low : (neg_ℤ (pos (k * 2 ^ 63))) ≤ℤ z
  pub high : (z +ℤ pos k) ≤ℤ pos (k * 2 ^ 63)

one_within : (v : ℤ) → FitsSigned w64 v → IsWithin 1 v
one_within v f = let a = least_value v f in let b = most_value v f in record { low = omega (arith, ints); high = omega (arith, ints) }

more_within : (k : ℕ) (z v : ℤ) → IsWithin k z → FitsSigned w64 v → IsWithin (suc k) (z +ℤ v)
more_within k z v h f =
    let a = least_value v f in let b = most_value v f in let c = h.low in let d = h.high in
    record { low = omega (arith, ints); high = omega (arith, ints) }

within_fits : (k : ℕ) (z : ℤ) → IsWithin k z → k ≤ 2 ^ 64 → 0 < k → FitsSigned w128 z
within_fits k z h l p = let c = h.low in let d = h.high in in_128 z (omega (arith, ints)) (omega (arith, ints))

abbrev AreFit : List Write → Type 0
AreFit = All (λ w. FitsSigned w64 w.processor × FitsSigned w64 w.value)

abbrev SumIs : List Write → Type 0
SumIs vs = (k : ℕ) (a : Entry) → IsWithin k a.value → k + length vs ≤ 2 ^ 64 → AreFit vs →
    (fold summed.join a (map (λ v. entry_of v.processor v.value) vs)).value ≡ a.value +ℤ sum_of vs

sum_is : (vs : List Write) → SumIs vs
sum_is [] k a h l f = omega (arith, ints)
sum_is (v ∷ vs) k a h l f =
    let g : IsWithin (suc k) (a.value +ℤ v.value) = more_within k a.value v.value h (f 0 v (omega arith)).1 in
    let e : int_wrap w128 (a.value +ℤ v.value) ≡ a.value +ℤ v.value =
    int_wrap_fits w128 (a.value +ℤ v.value) (within_fits (suc k) (a.value +ℤ v.value) g (omega arith) (omega arith)) in
    sum_is vs (suc k) (summed.join a (entry_of v.processor v.value)) (subst (IsWithin (suc k)) (sym e) g) (omega arith)
    (λ i d m. f (suc i) d (omega arith))
    ∙ ap (λ z. z +ℤ sum_of vs) e
    ∙ omega (arith, ints)

-- ---- how many writers there can be

-- a number of 64 bits, counted from the least one
number : ℤ → ℕ
number (pos n) = n + 2 ^ 63
number (negsuc n) = 2 ^ 63 - 1 - n

number_is : (z : ℤ) → FitsSigned w64 z → pos (number z) ≡ z +ℤ pos (2 ^ 63)
unfolding number
number_is (pos n) f = omega (arith, ints)
number_is (negsuc n) f = let h : n < 2 ^ 63 = f.sfits in omega (arith, ints)

number_below : (z : ℤ) → FitsSigned w64 z → number z < 2 ^ 64
unfolding number
number_below (pos n) f = let h : n < 2 ^ 63 = f.sfits in omega arith
number_below (negsuc n) f = omega arith

one_number : (y z : ℤ) → FitsSigned w64 y → FitsSigned w64 z → number y ≡ number z → y ≡ z
one_number y z f g e = let a = number_is y f in let b = number_is z g in omega (arith, ints, a, b, e)

abbrev numbers : List Write → List ℕ
numbers = map (λ w. number w.processor)

below_by : (q n : ℕ) (ns : List ℕ) → n < 2 ^ 64 → (list_any (eqb q) ns ≡ true → q < 2 ^ 64) → list_any (eqb q) (n ∷ ns) ≡ true →
    ((eqb q n ≡ true) × (q ≡ n)) ⊎ ((eqb q n ≡ false) × (q ≢ n)) → q < 2 ^ 64
below_by q n ns b rest h (inl e) = let k : q ≡ n = e.1 in omega arith
below_by q n ns b rest h (inr e) = rest (sym (ap (λ c. c || list_any (eqb q) ns) e.0) ∙ h)

numbers_below : (ws : List Write) → AreFit ws → (q : ℕ) → list_any (eqb q) (numbers ws) ≡ true → q < 2 ^ 64
numbers_below [] f q h = absurd (cc h)
numbers_below (w ∷ ws) f q h =
    below_by q (number w.processor) (numbers ws) (number_below w.processor (f 0 w (omega arith)).0)
    (numbers_below ws (λ i d m. f (suc i) d (omega arith)) q) h (eqb_tells q (number w.processor))

nobody : Write
nobody = record { processor = pos 0; value = pos 0 }

numbers_apart : (ws : List Write) → AreWriters ws → AllPairs (λ x y. x ≢ y) (numbers ws)
numbers_apart ws h i j d a b e =
    let l : length (numbers ws) ≡ length ws = length-map ws (λ w. number w.processor) in
    let first : get_or (numbers ws) i d ≡ number (get_or ws i nobody).processor =
    get_or-map (λ w. number w.processor) ws i nobody d (omega arith) in
    let second : get_or (numbers ws) j d ≡ number (get_or ws j nobody).processor =
    get_or-map (λ w. number w.processor) ws j nobody d (omega arith) in
    h.apart i j nobody a (omega arith) (one_number (get_or ws i nobody).processor (get_or ws j nobody).processor
    (h.fit i nobody (omega arith)).0 (h.fit j nobody (omega arith)).0 (sym first ∙ e ∙ second))

few : (ws : List Write) → AreWriters ws → length ws ≤ 2 ^ 64
few ws h =
    let l : length (numbers ws) ≡ length ws = length-map ws (λ w. number w.processor) in
    let m : length (numbers ws) ≤ 2 ^ 64 =
    length-le_from_distinct_below (numbers ws) (2 ^ 64) (IsDistinct-from_AllPairs {eq =
    eqb} Decides-eqb (numbers ws) (numbers_apart ws h)) (numbers_below ws h.fit) in
    omega arith

pub summed_carries : Carries Sum summed
summed_carries = record {
  associative = λ a b e j. record {
    owner = least_associates a.owner b.owner e.owner j;
    value = wraps_associate a.value b.value e.value j;
    clash = false;
  };
  commutative = λ a b j. record { owner = least_commutes a.owner b.owner j; value = wraps_commute a.value b.value j; clash = false };
  meets = λ w ws h. ap checked (sum_is ws 1 (entry_of w.processor w.value) (one_within w.value (h.fit 0 w (omega arith)).1)
      (let k : suc (length ws) ≤ 2 ^ 64 = few (w ∷ ws) h in omega arith) (λ i d m. h.fit (suc i) d (omega arith)));
}
