use Rattle.std.proofs.Common.{ℕ, ◌<◌, ◌^◌}
use Rattle.run_options.proofs.place_count.places.Given as goal

abbrev pub invariant-powers : goal.invariant-powers
invariant-powers l = record {
  below : (e : ℕ) → e < l.bits → 2 ^ e < l.cells;
}
