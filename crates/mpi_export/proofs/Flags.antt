-- Flags of numbers.
use Rattle.std.proofs.Common.{◌≡◌, ℕ, zero, suc, false, refl, replicate}
use Rattle.mpi_export.specs.Prepared.{flag_of}

pub none_set : (n k : ℕ) → flag_of (replicate n false) k ≡ false
none_set zero k = refl
none_set (suc n) zero = refl
none_set (suc n) (suc k) = none_set n k
