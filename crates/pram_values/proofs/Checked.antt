-- Results that fit in 64 bits, or don't.
use Rattle.std.proofs.Common.{◌≡◌, ℤ, pos, negsuc, Ok, Err, ◌^◌, ◌<◌, ◌≤◌, arith, ap, true, false, FitsSigned}
use Rattle.std.specs.Int.{w64}
use Rattle.std.proofs.lemmas.Bool.{lt-ltb, le-ltb}
use Rattle.std.proofs.lemmas.Int.{ints}
use Rattle.pram_values.specs.declared.kind.Kind.TheVariants.{Overflow}
use Rattle.pram_values.specs.Value.{Value, fits, checked}

pub fits_if : (z : ℤ) → FitsSigned w64 z → fits z ≡ true
fits_if (pos n) h = lt-ltb n (2 ^ 63) h.sfits
fits_if (negsuc n) h = let k : n < 2 ^ 63 = h.sfits in grind (arith, ints)

pub fits_not : (z : ℤ) → ¬ (FitsSigned w64 z) → fits z ≡ false
fits_not (pos n) h = let k : n < 2 ^ 63 → ⊥ = λ q. h (record { sfits = q }) in le-ltb n (2 ^ 63) (omega arith)
fits_not (negsuc n) h = let k : n < 2 ^ 63 → ⊥ = λ q. h (record { sfits = q }) in let l : 2 ^ 63 ≤ n = omega arith in grind (arith, ints)

pub checked_some : (z v : ℤ) → FitsSigned w64 z → v ≡ z → ◌≡◌ {A = Value} (Ok v) (checked z)
checked_some z v h e = rw (fits_if z h) (ap Ok e)

pub checked_none : (z : ℤ) → ¬ (FitsSigned w64 z) → ◌≡◌ {A = Value} (Err Overflow) (checked z)
checked_none z h = rw (fits_not z h)
