-- Sums of what is written to one cell.
use Rattle.std.proofs.Common.{◌≡◌, ℕ, List, [], ◌∷◌, ◌++◌, Option, Some, None, ℤ, pos, ◌+ℤ◌, Bool, true, false, Ok, Err, refl}
use Rattle.std.proofs.Common.{sym, subst, ap, ◌∙◌, arith, nat_eq, if◌then◌else◌, IfSome, IsSomeAnd, IsTrue}
use Rattle.std.proofs.lemmas.Int.{ints}
use Rattle.pram_values.specs.declared.kind.Kind.TheVariants.{Overflow}
use Rattle.pram_values.specs.Value.{checked, fits}
use Rattle.write_rules.specs.declared.write.Write.{Write}
use Rattle.write_rules.specs.Rule.{sum_of}
use Rattle.intervals.specs.declared.found.Found.{Found}
use Rattle.intervals.specs.declared.interval.Interval.{Interval}
use Rattle.intervals.specs.Intervals.{IsIn}
use Rattle.intervals.specs.Results.{HasValue, Tells}
use Rattle.pram_meaning.specs.Attempt as meant
use Rattle.pram_meaning.specs.Attempt.{Attempt, Gives, Fails}
use Rattle.pram_meaning.specs.Conflict.{Part, write_to, writes_by, writes_to}
use Rattle.pram_meaning.specs.Together.{value_in}
use Rattle.abstract_runs.proofs.CellWrites.{writes_last}

-- no sum overflows, so each is found
sum_found : (a b : Interval) (r : Found) (x y : ℤ) → Tells (λ x y. checked (x +ℤ y)) a b r → r.may_overflow ≡ false → IsIn x a → IsIn y b →
    HasValue r (x +ℤ y)
sum_found a b r x y told none i j = by (fits (x +ℤ y)) refl
  where
    by : (c : Bool) → fits (x +ℤ y) ≡ c → HasValue r (x +ℤ y)
    by true e = told.sound x y (x +ℤ y) i j (ap (λ c. if c then Ok (x +ℤ y) else Err Overflow) e)
    by false e =
        let may : IsTrue r.may_overflow = told.overflow.1 (record {
          left = x;
          right = y;
          left_in = i;
          right_in = j;
          gives = ap (λ c. if c then Ok (x +ℤ y) else Err Overflow) e;
        }) in
        absurd (cc (sym none ∙ may))

if_found : (a b : Interval) (found : Option Interval) → ((x y : ℤ) → IsIn x a → IsIn y b → IsSomeAnd found (λ i. IsIn (x +ℤ y) i)) →
    IfSome found (λ i. (x y : ℤ) → IsIn x a → IsIn y b → IsIn (x +ℤ y) i)
if_found a b None h = tt
if_found a b (Some i) h = h

pub sums_found : (a b : Interval) (r : Found) → Tells (λ x y. checked (x +ℤ y)) a b r → r.may_overflow ≡ false →
    IfSome r.value (λ i. (x y : ℤ) → IsIn x a → IsIn y b → IsIn (x +ℤ y) i)
sums_found a b r told none = if_found a b r.value (λ x y i j. sum_found a b r x y told none i j)

pub zero_behind : (z : ℤ) → z +ℤ pos 0 ≡ z
zero_behind z = grind (arith, ints)

regrouped : (x y z : ℤ) → x +ℤ (y +ℤ z) ≡ (x +ℤ y) +ℤ z
regrouped x y z = omega (arith, ints)

pub sum_both : (ws vs : List Write) → sum_of (ws ++ vs) ≡ sum_of ws +ℤ sum_of vs
sum_both [] vs = grind (arith, ints)
sum_both (w ∷ ws) vs = ap (λ z. w.value +ℤ z) (sum_both ws vs) ∙ regrouped w.value (sum_of ws) (sum_of vs)

sum_to : (P : ℤ → Type 0) (c : ℕ) (i v : ℤ) (cell : Option ℕ) → P (pos 0) → P v → P (sum_of (write_to c i cell v))
sum_to P c i v None h g = h
sum_to P c i v (Some d) h g = by (nat_eq c d)
  where
    by : (b : Bool) → P (sum_of (if b then record { processor = i; value = v } ∷ [] else []))
    by true = subst P (sym (zero_behind v)) g
    by false = h

sum_by : (P : ℤ → Type 0) (c : ℕ) (i : ℤ) (a : Attempt meant.Effect) → P (pos 0) → P (value_in a) → P (sum_of (writes_by c i a))
sum_by P c i (Gives t g) h k = sum_to P c i g.value g.cell h k
sum_by P c i (Fails t kind) h k = h

-- one part more, which writes its value or nothing
pub sums_more : (sums value more : Interval) (c : ℕ) (xs : List Part) (x : Part) →
    ((s v : ℤ) → IsIn s sums → IsIn v value → IsIn (s +ℤ v) more) → IsIn (pos 0) value → IsIn (value_in x.attempt) value →
    IsIn (sum_of (writes_to c xs)) sums → IsIn (sum_of (writes_to c (xs ++ x ∷ []))) more
sums_more sums value more c xs x add zero own before =
    subst (λ z. IsIn z more) (sym (ap sum_of (writes_last c xs x) ∙ sum_both (writes_to c xs) (writes_by c x.processor x.attempt)))
    (add (sum_of (writes_to c xs)) (sum_of (writes_by c x.processor x.attempt)) before
    (sum_by (λ z. IsIn z value) c x.processor x.attempt zero own))

-- one row more, of which no part is taken
pub sums_still : (sums value more : Interval) (s : ℤ) → ((s v : ℤ) → IsIn s sums → IsIn v value → IsIn (s +ℤ v) more) →
    IsIn (pos 0) value → IsIn s sums → IsIn s more
sums_still sums value more s add zero before = subst (λ z. IsIn z more) (zero_behind s) (add s (pos 0) before zero)
