-- What a test gives is true where the test holds, and equal numbers are one.
use Rattle.std.proofs.Common.{◌≡◌, Bool, true, false, ℤ, refl, arith}
use Rattle.std.proofs.lemmas.Int.{ints}
use Rattle.pram_values.specs.Truth.{truth, is_nonzero, is_equal}

pub is_nonzero-truth : (b : Bool) → is_nonzero (truth b) ≡ b
is_nonzero-truth true = refl
is_nonzero-truth false = refl

pub is_equal-self : (x : ℤ) → is_equal x x ≡ true
is_equal-self x = grind (arith, ints)

pub is_equal-true : (x y : ℤ) → is_equal x y ≡ true → x ≡ y
is_equal-true x y h = grind (arith, ints)
