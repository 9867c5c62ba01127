use Rattle.std.proofs.Common.{◌≡◌, ◌-◌, ℕ, length, vec_capacity}
use Rattle.combining.specs.Compact.{places_with}
use Rattle.combining.proofs.slots.lengthen.Given as goal

abbrev pub invariant-loop-slots : goal.invariant-loop-slots
invariant-loop-slots l = record {
  room : vec_capacity l.slots ≡ vec_capacity l.fn.slots;
  same : (n : ℕ) → places_with n l.slots.items ≡ places_with n l.fn.slots.items;
}

abbrev pub decreases-loop-slots : goal.decreases-loop-slots
decreases-loop-slots l = l.count - length l.slots.items
