use Rattle.std.proofs.Common.{ℕ, ◌<◌, pos, FitsSigned, w64}
use Rattle.std.specs.Prelude.{slice_index_or}
use Rattle.comparing.proofs.input.have_64_bits.Given as goal

abbrev pub invariant-values : goal.invariant-values
invariant-values l = (i : ℕ) → i < l.place → FitsSigned w64 (slice_index_or l.input i (pos 0))
