-- The code of a program within bounds means what the program means.
use Rattle.std.proofs.Common.{true}
use Rattle.superstep_instructions.specs.Code.{SuperstepCode}
use Rattle.pram_check.specs.Checked.{Checked}
use Rattle.pram_check.specs.Bounded.{IsBounded}
use Rattle.plain_form.specs.PlainForm.{form_of}
use Rattle.verified_form.proofs.ProgramsFormed.{forms_are_well_formed}
use Rattle.fusing.proofs.Fused.{all_fuse}
use Rattle.compiled_meaning.proofs.Outside.Followed.{statements_are_followed}
use Rattle.compiled_meaning.specs.Supersteps.{IsFusedForm}
use Rattle.compiled_meaning.proofs.Supersteps.{is_fused}
use Rattle.program_runs.specs.Compiled.{IsCodeOf}

pub means_program : (p : Checked) (code : SuperstepCode) → IsBounded p → IsCodeOf p code → IsFusedForm p code
means_program p code bounded is =
    is_fused statements_are_followed true p bounded (forms_are_well_formed true p bounded) code (all_fuse (form_of true p) code is)
