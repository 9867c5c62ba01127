use Rattle.verified_form.proofs.ProgramsFormed.{forms_are_well_formed}
use Rattle.compiled_meaning.proofs.Outside.Followed.{statements_are_followed}
use Rattle.compiled_meaning.proofs.Supersteps.{is_fused}
use Rattle.compiled_meaning.proofs.compiled_laws.fused_form_is_right.Goals as goal

pub returns : goal.returns
returns c = record {
  right = λ keep p code bounded fuses.
      is_fused statements_are_followed keep p bounded (forms_are_well_formed keep p bounded) code fuses;
}
