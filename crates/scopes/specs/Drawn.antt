-- The numbers that a seed draws from an interval.
use Rattle.std.specs.Prelude.{ℕ, ◌*◌, ◌/◌, ◌^◌, ℤ, pos, ◌+ℤ◌, ◌≤ℤ◌, List, map}
use Rattle.rand_core.specs.Steps.{first_words, u64_via_u32}
use Rattle.rand_pcg.specs.Lcg.{Lcg, increment_of, started}
use Rattle.rand_pcg.specs.Pcg.{multiplier_64, pcg32}
use Rattle.pram_model.specs.Layout.{width}

-- the generator PCG32 that a seed starts, on stream 54
abbrev pub generator : ℕ → Lcg
generator seed = started 64 multiplier_64 seed (increment_of 64 54)

-- its words of 64 bits, each of two words of 32 bits with the low one first
abbrev pub words : ℕ → Lcg → List ℕ
words count = first_words (u64_via_u32 pcg32) count

-- The number of the interval that a word of 64 bits stands for: the words are cut into as many parts as there are numbers, one behind
-- the other.
abbrev pub number_of : (low high : ℤ) → ℕ → ℤ
number_of low high word = low +ℤ pos (word * width low high / 2 ^ 64)

-- so many numbers, one for each word
abbrev pub drawn : (low high : ℤ) → (seed count : ℕ) → List ℤ
drawn low high seed count = map (number_of low high) (words count (generator seed))

-- a number of the interval
pub record IsWithin (low high number : ℤ) : Type 0 where
  pub above : low ≤ℤ number
  pub below : number ≤ℤ high
