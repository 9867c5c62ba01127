use Rattle.mpi_export.proofs.Plans.{plain_names}
use Rattle.mpi_export.proofs.program_laws.names_stand_in_literals.Goals as goal

pub returns : goal.returns
returns c = λ code is. plain_names code.layout is.layout.entries
