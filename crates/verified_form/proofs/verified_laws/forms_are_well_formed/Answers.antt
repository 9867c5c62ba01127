use Rattle.verified_form.proofs.ProgramsFormed as programs
use Rattle.verified_form.proofs.verified_laws.forms_are_well_formed.Goals as goal

pub returns : goal.returns
returns c = record { formed = programs.forms_are_well_formed }
