-- What is found of tests that may hold, or fail, or both.
use Rattle.std.proofs.Common.{◌≡◌, ℤ, Bool, true, false, not, ◌&&◌, ◌↔◌, IsTrue, Option, Some, None, Ok, arith, refl, ap}
use Rattle.std.specs.Prelude.{IsSomeAnd, IfSome}
use Rattle.std.proofs.lemmas.Int.{ints}
use Rattle.pram_values.specs.Value.{Value}
use Rattle.pram_values.specs.Truth.{truth}
use Rattle.intervals.specs.declared.interval.Interval.{Interval}
use Rattle.intervals.specs.declared.found.Found.{Found}
use Rattle.intervals.specs.Intervals.{IsIn}
use Rattle.intervals.specs.Comparisons.{Comes}
use Rattle.intervals.specs.Results.{Gives, Tells, AreEndsGiven}
use Rattle.intervals.proofs.Joins.{least_in}

-- the truth values from one to another
record AreTruths (h e : Bool) (i : Interval) : Type 0 where
  pub least : i.least ≡ truth (h && not e)
  pub greatest : i.greatest ≡ truth h

module _ (t : ℤ → ℤ → Bool) (a b : Interval) where
  given : (v : Bool) → Comes t a b v → Gives (λ x y. Ok (truth (t x y))) a b (Ok (truth v))
  given v c = record { left = c.left; right = c.right; left_in = c.left_in; right_in = c.right_in; gives = ap (λ w. Ok (truth w)) c.is }

  -- where a test holds nowhere it fails somewhere
  fails : (v : Bool) → t a.least b.least ≡ v → (Comes t a b true → ⊥) → Comes t a b false
  fails true e n = absurd (n (record { left = a.least; right = b.least; left_in = least_in a; right_in = least_in b; is = e }))
  fails false e n = record { left = a.least; right = b.least; left_in = least_in a; right_in = least_in b; is = e }

  greatest_given : (h : Bool) → IsTrue h ↔ Comes t a b true → Gives (λ x y. Ok (truth (t x y))) a b (Ok (truth h))
  greatest_given true p = given true (p.0 refl)
  greatest_given false p = given false (fails (t a.least b.least) refl (λ c. let q : ◌≡◌ {A = Bool} false true = p.1 c in absurd (cc)))

  least_given : (h e : Bool) → IsTrue h ↔ Comes t a b true → IsTrue e ↔ Comes t a b false → Gives (λ x y. Ok (truth (t x y))) a b (Ok (truth (h && not e)))
  least_given true true p q = given false (q.0 refl)
  least_given true false p q = given true (p.0 refl)
  least_given false e p q = given false (fails (t a.least b.least) refl (λ c. let r : ◌≡◌ {A = Bool} false true = p.1 c in absurd (cc)))

  value_in : (h e v : Bool) (i : Interval) (x y : ℤ) → AreTruths h e i → IsTrue h ↔ Comes t a b true → IsTrue e ↔ Comes t a b false
      → IsIn x a → IsIn y b → t x y ≡ v → IsIn (truth v) i
  value_in true true true i x y r p q k l m = record { least = omega (arith, ints, r.least); greatest = omega (arith, ints, r.greatest) }
  value_in true false true i x y r p q k l m = record { least = omega (arith, ints, r.least); greatest = omega (arith, ints, r.greatest) }
  value_in false e true i x y r p q k l m =
      let s : ◌≡◌ {A = Bool} false true = p.1 (record { left = x; right = y; left_in = k; right_in = l; is = m }) in absurd (cc)
  value_in true true false i x y r p q k l m = record { least = omega (arith, ints, r.least); greatest = omega (arith, ints, r.greatest) }
  value_in false true false i x y r p q k l m = record { least = omega (arith, ints, r.least); greatest = omega (arith, ints, r.greatest) }
  value_in h false false i x y r p q k l m =
      let s : ◌≡◌ {A = Bool} false true = q.1 (record { left = x; right = y; left_in = k; right_in = l; is = m }) in absurd (cc)

  sound : (h e : Bool) (o : Option Interval) → IsTrue h ↔ Comes t a b true → IsTrue e ↔ Comes t a b false
      → IsSomeAnd o (λ i. (i.least ≡ truth (h && not e)) × (i.greatest ≡ truth h))
      → (x y z : ℤ) → IsIn x a → IsIn y b → ◌≡◌ {A = Value} (Ok (truth (t x y))) (Ok z) → IsSomeAnd o (λ i. IsIn z i)
  sound h e None p q s = absurd s
  sound h e (Some i) p q s = λ x y z k l m.
      let n : truth (t x y) ≡ z = cc in
      rw (← n) (value_in h e (t x y) i x y (record { least = s.0; greatest = s.1 }) p q k l refl)

  pub tests_told : (h e : Bool) (r : Found) → IsTrue h ↔ Comes t a b true → IsTrue e ↔ Comes t a b false
      → IsSomeAnd r.value (λ i. (i.least ≡ truth (h && not e)) × (i.greatest ≡ truth h)) → r.may_overflow ≡ false → r.may_divide_by_zero ≡ false
      → Tells (λ x y. Ok (truth (t x y))) a b r
  tests_told h e r p q s o z = record {
    sound = sound h e r.value p q s;
    overflow = (λ g. absurd (cc), λ g. absurd (cc g.gives));
    zero = (λ g. absurd (cc), λ g. absurd (cc g.gives));
  }

  ends : (h e : Bool) (o : Option Interval) → IsTrue h ↔ Comes t a b true → IsTrue e ↔ Comes t a b false
      → IsSomeAnd o (λ i. (i.least ≡ truth (h && not e)) × (i.greatest ≡ truth h))
      → IfSome o (λ i. Gives (λ x y. Ok (truth (t x y))) a b (Ok i.least) × Gives (λ x y. Ok (truth (t x y))) a b (Ok i.greatest))
  ends h e None p q s = absurd s
  ends h e (Some i) p q s = (rw s.0 (least_given h e p q), rw s.1 (greatest_given h p))

  pub tests_given : (h e : Bool) (r : Found) → IsTrue h ↔ Comes t a b true → IsTrue e ↔ Comes t a b false
      → IsSomeAnd r.value (λ i. (i.least ≡ truth (h && not e)) × (i.greatest ≡ truth h))
      → AreEndsGiven (λ x y. Ok (truth (t x y))) a b r
  tests_given h e r p q s = ends h e r.value p q s
