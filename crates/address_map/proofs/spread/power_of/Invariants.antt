use Rattle.std.specs.Prelude.{◌≢◌, ◌<◌, ◌^◌, ℕ}
use Rattle.address_map.proofs.spread.power_of.Given as goal

-- no power so far is the number
abbrev pub invariant-powers : goal.invariant-powers
invariant-powers l = (e : ℕ) → e < l.bits → l.cells ≢ 2 ^ e
