-- New numbers that registers were given one after the other.
use Rattle.std.specs.Prelude.{◌≡◌, ℕ, ◌<◌, ◌≤◌, ◌^◌, ◌⊎◌, length, slice_index_or}
use Rattle.renaming.specs.declared.numbers.Numbers.{Numbers}
use Rattle.renaming.specs.Renamed.{IsOneToOne}

-- the number that a register has now, and the register that has a number
abbrev pub number_of : Numbers → ℕ → ℕ
number_of x r = slice_index_or x.numbers.items r r

abbrev pub register_of : Numbers → ℕ → ℕ
register_of x n = slice_index_or x.registers.items n n

-- each register has one number, and so many were given
pub record AreNumbers (x : Numbers) : Type 0 where
  pub numbers : length x.numbers.items ≡ 2 ^ 16
  pub registers : length x.registers.items ≡ 2 ^ 16
  pub one : IsOneToOne (number_of x) (register_of x)
  pub few : x.given ≤ 2 ^ 16

-- Behind that these registers have numbers that were given, each of those that had one has its own still, and no other register has one.
pub record HaveNumbers (these : ℕ → Type 0) (x y : Numbers) : Type 0 where
  pub numbers : AreNumbers y
  pub grow : x.given ≤ y.given
  pub placed : (r : ℕ) → these r → number_of y r < y.given
  pub kept : (r : ℕ) → number_of x r < x.given → number_of y r ≡ number_of x r
  pub others : (n : ℕ) → n < y.given → ((n < x.given) × (register_of y n ≡ register_of x n)) ⊎ these (register_of y n)
