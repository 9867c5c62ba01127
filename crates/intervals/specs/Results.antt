-- What an operation comes to on all members of intervals (this project's own profile).
use Rattle.std.specs.Prelude.{ℤ, ◌≡◌, ◌↔◌, Ok, Err, IsTrue, IsSomeAnd, IfSome}
use Rattle.pram_values.specs.declared.kind.Kind.TheVariants.{Overflow, DivideByZero}
use Rattle.pram_values.specs.Value.{Value}
use Rattle.intervals.specs.declared.interval.Interval.{Interval}
use Rattle.intervals.specs.declared.found.Found.{Found}
use Rattle.intervals.specs.Intervals.{IsIn}

-- some member of a and some member of b give this
pub record Gives (f : ℤ → ℤ → Value) (a b : Interval) (v : Value) : Type 0 where
  pub left : ℤ
  pub right : ℤ
  pub left_in : IsIn left a
  pub right_in : IsIn right b
  pub gives : f left right ≡ v

-- a number is in the value that was found
abbrev pub HasValue : Found → ℤ → Type 0
HasValue r z = IsSomeAnd r.value (λ i. IsIn z i)

-- the value holds whatever members of a and b give, and each fault is told exactly where some of them have it
pub record Tells (f : ℤ → ℤ → Value) (a b : Interval) (r : Found) : Type 0 where
  pub sound : (x y z : ℤ) → IsIn x a → IsIn y b → f x y ≡ Ok z → HasValue r z
  pub overflow : IsTrue r.may_overflow ↔ Gives f a b (Err Overflow)
  pub zero : IsTrue r.may_divide_by_zero ↔ Gives f a b (Err DivideByZero)

-- both ends of the value are given
abbrev pub AreEndsGiven : (ℤ → ℤ → Value) → Interval → Interval → Found → Type 0
AreEndsGiven f a b r = IfSome r.value (λ i. Gives f a b (Ok i.least) × Gives f a b (Ok i.greatest))
