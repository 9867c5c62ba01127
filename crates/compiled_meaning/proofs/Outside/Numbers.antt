-- The numbers of a `for`: how many there are between its bounds, and the step from one to the next.
use Rattle.std.proofs.Common.{◌≡◌, ℕ, zero, suc, ◌+◌, Bool, true, false, Ok, ℤ, pos, ◌+ℤ◌, ◌-ℤ◌, nat_abs, int_lt, int_le, refl, sym, ap}
use Rattle.std.proofs.Common.{◌∙◌, subst, arith}
use Rattle.std.specs.Prelude.{if◌then◌else◌}
use Rattle.std.proofs.lemmas.Int.{ints}
use Rattle.pram_model.specs.Layout.{width}
use Rattle.pram_values.specs.Truth.{truth}
use Rattle.pram_values.specs.Value.{checked}
use Rattle.pram_values.proofs.Checked.{checked_some}
use Rattle.pram_meaning.specs.Values.{IsValue}
use Rattle.pram_meaning.proofs.SoundValues.{between}
use Rattle.compiled_meaning.proofs.EachStatement.Valued.{value_fits}

-- without a number the low bound is the greater one
pub none_between : (a b : ℤ) → width a b ≡ zero → int_le a b ≡ false
none_between a b = by (int_le a b)
  where
    by : (t : Bool) → (if t then nat_abs (b -ℤ a) + 1 else 0) ≡ zero → t ≡ false
    by true e = absurd (omega (arith, e))
    by false e = refl

-- and with k and one more the last one is k further on
pub record IsFurther (a b : ℤ) (k : ℕ) : Type 0 where
  pub any : int_le a b ≡ true
  pub last : b ≡ a +ℤ pos k

pub some_between : (a b : ℤ) (k : ℕ) → width a b ≡ suc k → IsFurther a b k
some_between a b k = by (int_le a b) refl
  where
    by : (t : Bool) → int_le a b ≡ t → (if t then nat_abs (b -ℤ a) + 1 else 0) ≡ suc k → IsFurther a b k
    by true e h =
        let n : nat_abs (b -ℤ a) ≡ k = omega (arith, h) in
        record { any = e; last = far n }
      where
        far : nat_abs (b -ℤ a) ≡ k → b ≡ a +ℤ pos k
        far n = grind (arith, ints, e, n)
    by false e h = absurd (omega (arith, h))

-- ---- the step

pub no_more : (a b : ℤ) → b ≡ a +ℤ pos zero → int_lt a b ≡ false
no_more a b h = grind (arith, ints, h)

pub one_turn_more : (a b : ℤ) (k : ℕ) → b ≡ a +ℤ pos (suc k) → int_lt a b ≡ true
one_turn_more a b k h = grind (arith, ints, h)

pub next_last : (a b : ℤ) (k : ℕ) → b ≡ a +ℤ pos (suc k) → b ≡ (a +ℤ pos 1) +ℤ pos k
next_last a b k h = omega (arith, ints, h)

-- the next number is between the bounds, so it has 64 bits
pub next_is : (a b : ℤ) (k : ℕ) → b ≡ a +ℤ pos (suc k) → IsValue a → IsValue b → IsValue (a +ℤ pos 1)
next_is a b k h low high = between a (a +ℤ pos 1) b low high (omega (arith, ints)) (omega (arith, ints, h))

pub step_is : (a b : ℤ) (k : ℕ) → b ≡ a +ℤ pos (suc k) → IsValue a → IsValue b → checked (a +ℤ truth (int_lt a b)) ≡ Ok (a +ℤ pos 1)
step_is a b k h low high =
    ap (λ t. checked (a +ℤ truth t)) (one_turn_more a b k h)
    ∙ sym (checked_some (a +ℤ pos 1) (a +ℤ pos 1) (value_fits (a +ℤ pos 1) (next_is a b k h low high)) refl)

-- behind the last number it stays
pub stay_is : (a b : ℤ) → b ≡ a +ℤ pos zero → IsValue a → checked (a +ℤ truth (int_lt a b)) ≡ Ok a
stay_is a b h low =
    ap (λ t. checked (a +ℤ truth t)) (no_more a b h)
    ∙ sym (checked_some (a +ℤ pos 0) a (value_fits (a +ℤ pos 0) (subst IsValue (let e : a ≡ a +ℤ pos 0 = omega (arith, ints) in e) low))
    (omega (arith, ints)))
