-- A digit is a byte from 48 to 57.
use Rattle.std.proofs.Common.{◌≡◌, ℕ, true, arith}
use Rattle.std.specs.Int.{IsInRange}
use Rattle.std.proofs.lemmas.Bool.Decides.{nat_tests}
use Rattle.pram_model.specs.Names.{is_digit}

pub digit_range : (b : ℕ) → is_digit b ≡ true → IsInRange 48 57 b
digit_range b h = grind (arith, nat_tests)

pub range_digit : (b : ℕ) → IsInRange 48 57 b → is_digit b ≡ true
range_digit b h = grind (arith, nat_tests)
