use Rattle.std.proofs.Common.{true, sym, subst}
use Rattle.bsp_verify.specs.WellFormed.{IsWellFormed}
use Rattle.verified_form.proofs.ProgramsFormed.{forms_are_well_formed}
use Rattle.lowering.proofs.program.lower.Goals as goal

-- the form of a program within bounds
pub verified-requires : goal.verified-requires
verified-requires c = subst IsWellFormed (sym c.code.ensures) (forms_are_well_formed true c.args.program.now c.bounded.ensures.bounded)
