use Rattle.verified_form.proofs.SmallPrograms as programs
use Rattle.verified_form.proofs.verified_laws.forms_are_code.Goals as goal

pub returns : goal.returns
returns c = record { limits = programs.forms_are_code }
