use Rattle.std.proofs.Common.{true}
use Rattle.plain_form.specs.PlainForm.{form_of}
use Rattle.verified_form.proofs.ProgramsFormed.{forms_are_well_formed}
use Rattle.fusing.proofs.Fused.{has_any, has_one}
use Rattle.program_runs.proofs.code_laws.programs_have_one_code.Goals as goal

pub returns : goal.returns
returns c = record {
  one = λ p one other a b. has_one (form_of true p) one other a b;
  any = λ p bounded. has_any (form_of true p) (forms_are_well_formed true p bounded);
}
