use Rattle.std.proofs.Common.{◌≡◌, ℕ, ◌<◌, length, pos, FitsSigned, w64}
use Rattle.std.specs.Prelude.{slice_index_or}
use Rattle.combining.specs.Gathering.{value_at}
use Rattle.worker_exchange.proofs.opening.opening_cells.Given as goal

abbrev pub invariant-offsets : goal.invariant-offsets
invariant-offsets g l = record {
  long : length l.cells ≡ l.size;
  set : (o : ℕ) → o < l.offset → value_at l.cells o ≡ slice_index_or l.input ((g.M.AddressMap.shape l.map).cell l.part o) (pos 0);
  fit : (o : ℕ) → o < l.offset → FitsSigned w64 (value_at l.cells o);
}
