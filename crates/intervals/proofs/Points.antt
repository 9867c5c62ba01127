-- One pair of numbers gives one number.
use Rattle.std.proofs.Common.{◌≡◌, ℤ, Bool, true, false, Option, Some, None, Ok, Err, refl, sym, ap, ◌∙◌}
use Rattle.std.specs.Prelude.{IsSomeAnd, IfSome}
use Rattle.std.proofs.Common.{arith}
use Rattle.std.proofs.lemmas.Int.{ints}
use Rattle.pram_tokens.specs.declared.token.Binary.{Binary}
use Rattle.pram_tokens.specs.declared.token.Binary.TheVariants.{Or, And, Equal, Unequal, Less, AtMost, Greater, AtLeast, Add, Subtract, Multiply, Divide, Remainder}
use Rattle.pram_values.specs.declared.kind.Kind.TheVariants.{Overflow}
use Rattle.pram_values.specs.Value.{Value}
use Rattle.pram_values.specs.Division.{floor_quotient}
use Rattle.pram_meaning.specs.Operation.{operate}
use Rattle.intervals.specs.declared.interval.Interval.{Interval}
use Rattle.intervals.specs.declared.found.Found.{Found}
use Rattle.intervals.specs.Intervals.{IsIn, IsPoint}
use Rattle.intervals.specs.Reaching.{IsReaching}
use Rattle.intervals.specs.Results.{Gives, Tells, AreEndsGiven}
use Rattle.intervals.proofs.Rests.{rest_given}

in_point : (x : ℤ) (a : Interval) → IsPoint x a → IsIn x a
in_point x a p = let e : a.least ≡ x = p.least in let f : a.greatest ≡ x = p.greatest in record { least = omega (arith, ints); greatest = omega (arith, ints) }

only : (x y : ℤ) (a : Interval) → IsPoint x a → IsIn y a → y ≡ x
only x y a p h = let e : a.least ≡ x = p.least in let f : a.greatest ≡ x = p.greatest in omega (arith, ints)

module _ (f : ℤ → ℤ → Value) (a b : Interval) (x y : ℤ) (p : IsPoint x a) (q : IsPoint y b) where
  gives_one : (v : Value) → Gives f a b v → f x y ≡ v
  gives_one v g = rw (only x g.left a p g.left_in, only y g.right b q g.right_in) at g.gives

  calm : (r : Found) (z : ℤ) (o : Bool) → r.may_overflow ≡ o → Tells f a b r → f x y ≡ Ok z → r.may_overflow ≡ false
  calm r z true e t g = let k : f x y ≡ Err Overflow = gives_one (Err Overflow) (t.overflow.0 e) in absurd (cc)
  calm r z false e t g = e

  one_value : (o : Option Interval) (z : ℤ) → IsSomeAnd o (λ i. IsIn z i) → IfSome o (λ i. Gives f a b (Ok i.least) × Gives f a b (Ok i.greatest))
      → f x y ≡ Ok z → IsSomeAnd o (λ i. IsPoint z i)
  one_value None z s e g = absurd s
  one_value (Some i) z s e g =
      let low : f x y ≡ Ok i.least = gives_one (Ok i.least) e.0 in
      let high : f x y ≡ Ok i.greatest = gives_one (Ok i.greatest) e.1 in
      record { least = cc; greatest = cc }

reaching : (op : Binary) (a b : Interval) (r : Found) (x y z : ℤ) → IsPoint x a → IsPoint y b → Tells (operate op) a b r → operate op x y ≡ Ok z → IsReaching op a b r
reaching Or a b r x y z p q t g = tt
reaching And a b r x y z p q t g = tt
reaching Equal a b r x y z p q t g = tt
reaching Unequal a b r x y z p q t g = tt
reaching Less a b r x y z p q t g = tt
reaching AtMost a b r x y z p q t g = tt
reaching Greater a b r x y z p q t g = tt
reaching AtLeast a b r x y z p q t g = tt
reaching Add a b r x y z p q t g = tt
reaching Subtract a b r x y z p q t g = tt
reaching Multiply a b r x y z p q t g = calm (operate Multiply) a b x y p q r z r.may_overflow refl t g
reaching Divide a b r x y z p q t g = calm (operate Divide) a b x y p q r z r.may_overflow refl t g
reaching Remainder a b r x y z p q t g = record {
  point = q.least ∙ sym q.greatest;
  nonzero = λ e. (rest_given x y z g).0 (sym q.least ∙ e);
  same = ap (λ n. floor_quotient n b.least) (p.least ∙ sym p.greatest);
}

pub point_given : (op : Binary) (a b : Interval) (r : Found) → Tells (operate op) a b r → (IsReaching op a b r → AreEndsGiven (operate op) a b r)
    → (x y z : ℤ) → IsPoint x a → IsPoint y b → operate op x y ≡ Ok z → IsSomeAnd r.value (λ i. IsPoint z i)
point_given op a b r t e x y z p q g =
    one_value (operate op) a b x y p q r.value z (t.sound x y z (in_point x a p) (in_point y b q) g) (e (reaching op a b r x y z p q t g)) g
