-- Tests whether two numbers are equal.
use Rattle.std.proofs.Common.{◌≡◌, ℕ, Bool, true, false, eqb, refl, arith}
use Rattle.std.proofs.lemmas.Bool.Decides.{nat_tests}

pub same_number : (m n : ℕ) → eqb m n ≡ true → m ≡ n
same_number m n h = grind (arith, nat_tests, h)

pub with_itself : (n : ℕ) → eqb n n ≡ true
with_itself n = grind (arith, nat_tests)

pub turned : (m n : ℕ) → eqb m n ≡ eqb n m
turned m n = go (eqb m n) (eqb n m) refl refl
  where
    go : (a b : Bool) → eqb m n ≡ a → eqb n m ≡ b → a ≡ b
    go true true x y = refl
    go true false x y = absurd (grind (arith, nat_tests, x, y))
    go false true x y = absurd (grind (arith, nat_tests, x, y))
    go false false x y = refl
