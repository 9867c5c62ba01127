use Rattle.std.proofs.Common.{◌≡◌, ℕ, ◌<◌, false, get_or}
use Rattle.std.specs.Slots.{slots_items, slots_filled, slots_len}
use Rattle.std.specs.Slots.Ownership.{Filled}
use Rattle.turnstile.proofs.start.taking.empty_out.Given as goal

abbrev pub invariant-loop-k : goal.invariant-loop-k
invariant-loop-k g l = (slots_items l.closed.slots ≡ slots_items l.initial.closed.slots)
    × (slots_len l.closed.slots ≡ slots_len l.initial.closed.slots)
    × Filled (slots_filled l.closed.slots) l.k (slots_len l.closed.slots)
    × ((j : ℕ) → j < l.k → get_or (slots_filled l.closed.slots) j false ≡ false)
