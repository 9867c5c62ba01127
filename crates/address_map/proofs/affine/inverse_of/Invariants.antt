use Rattle.std.specs.Prelude.{◌≡◌, ◌<◌, ◌*◌, ◌%◌, ◌^◌, ℕ}
use Rattle.address_map.proofs.affine.inverse_of.Given as goal

-- the square so far is a power, and the inverse so far is one multiplication short of it
pub record Squares (a k power square inverse : ℕ) : Type 0 where
  pub power_of : square ≡ a ^ (2 ^ power) % k
  pub short : (a * inverse) % k ≡ square
  pub square_below : square < k
  pub inverse_below : inverse < k

abbrev pub invariant-squares : goal.invariant-squares
invariant-squares l = Squares l.multiplier l.cells l.power l.square l.inverse
