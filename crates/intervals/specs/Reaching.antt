-- Where the ends of what is found are sure to be given (this project's own profile).
use Rattle.std.specs.Prelude.{◌≡◌, ◌⊎◌, ◌*ℤ◌, true, false, IsTrue, IsNone, IfSome, IsSomeAnd}
use Rattle.pram_tokens.specs.declared.token.Binary.{Binary}
use Rattle.pram_tokens.specs.declared.token.Binary.TheVariants.{Multiply, Divide, Remainder}
use Rattle.pram_meaning.specs.Operation.{operate}
use Rattle.pram_values.specs.Truth.{is_nonzero}
use Rattle.pram_values.specs.Division.{floor_quotient}
use Rattle.intervals.specs.declared.interval.Interval.{Interval}
use Rattle.intervals.specs.declared.found.Found.{Found}
use Rattle.intervals.specs.Intervals.{IsWithin}
use Rattle.intervals.specs.Hulls.{IsCutHull}
use Rattle.intervals.specs.Remainders.{HasOneQuotient, IsZeroAlone, AreRemainders}
use Rattle.intervals.specs.Results.{Tells, AreEndsGiven}

-- a product or a quotient has no overflow, a remainder one quotient by one divisor
abbrev pub IsReaching : Binary → Interval → Interval → Found → Type 0
IsReaching Multiply a b r = r.may_overflow ≡ false
IsReaching Divide a b r = r.may_overflow ≡ false
IsReaching Remainder a b r = HasOneQuotient a b
IsReaching operator a b r = Unit {0}

-- products and quotients are the part of 64 bits of the whole numbers that come out, remainders lie between their divisors
abbrev pub IsBoundedFor : Binary → Interval → Interval → Found → Type 0
IsBoundedFor Multiply a b r = IsCutHull (λ y. true) ◌*ℤ◌ a b r
IsBoundedFor Divide a b r = (IsZeroAlone b × IsNone r.value) ⊎ IsCutHull is_nonzero floor_quotient a b r
IsBoundedFor Remainder a b r = AreRemainders a b r.value
IsBoundedFor operator a b r = Unit {0}

-- all that is said of what is found
pub record IsFoundFor (operator : Binary) (a b : Interval) (r : Found) : Type 0 where
  pub told : Tells (operate operator) a b r
  pub reached : IsReaching operator a b r → AreEndsGiven (operate operator) a b r
  pub bounded : IsBoundedFor operator a b r

-- one that is found holds what the other holds, and tells what the other tells
pub record IsFoundWithin (r s : Found) : Type 0 where
  pub value : IfSome r.value (λ i. IsSomeAnd s.value (λ j. IsWithin i j))
  pub overflow : IsTrue r.may_overflow → IsTrue s.may_overflow
  pub zero : IsTrue r.may_divide_by_zero → IsTrue s.may_divide_by_zero
