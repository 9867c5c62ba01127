-- Permutations of the numbers below k.
use Rattle.std.specs.Prelude.{◌≡◌, ℕ, ◌<◌, ◌+◌, ◌-◌, ◌*◌, ◌/◌, ◌%◌, ◌^◌, List, [], ◌∷◌}
use Rattle.std.specs.Int.Bits.{bit_xor}

-- f and g take numbers below k to numbers below k, and each undoes the other
pub record IsInverse (k : ℕ) (f g : ℕ → ℕ) : Type 0 where
  pub below : (x : ℕ) → x < k → f x < k
  pub back_below : (x : ℕ) → x < k → g x < k
  pub back : (x : ℕ) → x < k → g (f x) ≡ x
  pub forth : (x : ℕ) → x < k → f (g x) ≡ x

-- each number stays where it is
abbrev pub same : ℕ → ℕ
same x = x

-- times a, plus b, below k
abbrev pub affine : ℕ → ℕ → ℕ → ℕ → ℕ
affine k a b x = (a * x + b) % k

-- what undoes it, where u is the inverse of a below k
abbrev pub affine_back : ℕ → ℕ → ℕ → ℕ → ℕ
affine_back k u b y = (u * (y + (k - b % k))) % k

-- y xor (y shifted right by s)
abbrev pub shifted : ℕ → ℕ → ℕ
shifted s y = bit_xor y (y / 2 ^ s)

-- a round: times a below k, then a shift by s
abbrev pub round : ℕ → ℕ → ℕ → ℕ → ℕ
round k a s x = shifted s ((a * x) % k)

-- some rounds (a, s), one after the other
abbrev pub rounds : ℕ → List (ℕ × ℕ) → ℕ → ℕ
rounds k [] x = x
rounds k ((a, s) ∷ rest) x = rounds k rest (round k a s x)
