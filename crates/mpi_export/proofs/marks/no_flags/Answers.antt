use Rattle.std.proofs.Common.{◌≡◌, ℕ, List, Bool, false, sym, subst}
use Rattle.mpi_export.specs.Prepared.{flag_of}
use Rattle.mpi_export.proofs.Flags.{none_set}
use Rattle.mpi_export.proofs.marks.no_flags.Goals as goal

pub returns-clause-unset : goal.returns-clause-unset
returns-clause-unset c =
    subst (λ (xs : List Bool). (k : ℕ) → flag_of xs k ≡ false) (sym c.in_ok-flags.ensures) (none_set 65536)
