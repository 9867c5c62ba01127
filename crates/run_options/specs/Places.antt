-- How many places a map has for some cells.
use Rattle.std.specs.Prelude.{◌≡◌, ℕ, ◌^◌, ◌≤◌}

-- the least power of two that is not below k
pub record IsLeastPower (k n : ℕ) : Type 0 where
  pub power : ℕ
  pub is_power : n ≡ 2 ^ power
  pub enough : k ≤ n
  pub least : (e : ℕ) → k ≤ 2 ^ e → n ≤ 2 ^ e
