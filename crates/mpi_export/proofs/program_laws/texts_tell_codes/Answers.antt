use Rattle.mpi_export.specs.Program.{runtime}
use Rattle.mpi_export.specs.declared.state_text.TheConstants.{HEAD}
use Rattle.mpi_export.proofs.Plans.{plan_told}
use Rattle.mpi_export.proofs.program_laws.texts_tell_codes.Goals as goal

pub returns : goal.returns
returns c = λ one two isone istwo same. plan_told one two isone istwo HEAD runtime same
