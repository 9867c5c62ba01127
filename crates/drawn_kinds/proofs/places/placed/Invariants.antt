use Rattle.std.proofs.Common.{◌≡◌, ◌<◌, ℕ, get_or, length}
use Rattle.drawn_kinds.specs.Kinds.{at}
use Rattle.drawn_kinds.proofs.places.placed.Given as goal

abbrev pub invariant-loop-turn : goal.invariant-loop-turn
invariant-loop-turn l = record {
  count : length l.found.items ≡ length l.order;
  follows : (k : ℕ) → k < l.turn → at l.found.items (get_or l.order k 0) ≡ at l.beside k;
}
