-- What exchanges cost that are behind.
use Rattle.std.proofs.Common.{◌≡◌, ℕ, ◌+◌, ◌<◌, ◌≤◌, ◌^◌, List, length, drop, Some, ap, arith, ◌∙◌}
use Rattle.std.proofs.lemmas.List.{drop_all}
use Rattle.superstep_machine.specs.Trace.{Exchange}
use Rattle.tracer.specs.Cost.{bsp_cost, in_128_bits}

-- behind all of them the sum is what all cost
pub all_summed : (g l sum i : ℕ) (es : List Exchange) → length es ≤ i → sum + bsp_cost g l (drop i es) ≡ bsp_cost g l es → sum < 2 ^ 128 →
    Some sum ≡ in_128_bits (bsp_cost g l es)
all_summed g l sum i es end all small =
    let none = ap (bsp_cost g l) (drop_all i es end) in
    let is : sum ≡ bsp_cost g l es = omega (arith, none, all) in
    fits sum small ∙ ap in_128_bits is
  where
    fits : (n : ℕ) → n < 2 ^ 128 → Some n ≡ in_128_bits n
    fits n h = grind (arith, h)
