-- The part of a word of 64 bits.
use Rattle.std.proofs.Common.{◌≡◌, ◌+◌, ◌*◌, ◌/◌, ◌^◌, ◌<◌, ℕ, arith}
use Rattle.std.proofs.lemmas.Int.{ints}
use Rattle.std.specs.Prelude.{ℤ, ◌+ℤ◌, ◌-ℤ◌, ◌≤ℤ◌, nat_abs, pos}
use Rattle.pram_model.specs.Layout.{width}
use Rattle.pram_model.proofs.Layouts.{width_is}
use Rattle.scopes.specs.Drawn.{IsWithin, number_of}
use Rattle.std.proofs.Math.Nat.{div-lt_iff_lt-mul, mul-lt-mul_of_pos_left}

-- it is one of the parts
pub part_below : (word parts : ℕ) → word < 2 ^ 64 → 0 < parts → word * parts / 2 ^ 64 < parts
part_below word parts small some =
    let more : parts * word < parts * 2 ^ 64 = mul-lt-mul_of_pos_left small some in
    (div-lt_iff_lt-mul {k = 2 ^ 64} {x = word * parts} {y = parts} (omega arith)).1 (omega (arith, more))

-- and its number is in the interval
pub is_within : (low high : ℤ) (word : ℕ) → low ≤ℤ high → word < 2 ^ 64 → IsWithin low high (number_of low high word)
is_within low high word ordered small =
    let wide : width low high ≡ nat_abs (high -ℤ low) + 1 = width_is low high ordered in
    let below = part_below word (width low high) small (omega (arith, wide)) in
    by (word * width low high / 2 ^ 64) (omega (arith, wide, below))
  where
    by : (part : ℕ) → part < nat_abs (high -ℤ low) + 1 → IsWithin low high (low +ℤ pos part)
    by part below = record { above = omega (arith, ints); below = omega (arith, ints) }
