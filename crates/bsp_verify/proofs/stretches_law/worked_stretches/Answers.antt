use Rattle.bsp_verify.proofs.WorkedStretchLemmas.{settings_judged, turns_judged, ending_judged, worked_formed}
use Rattle.bsp_verify.proofs.stretches_law.worked_stretches.Goals as goal

pub returns : goal.returns
returns c = record { settings = settings_judged; turns = turns_judged; ending = ending_judged; well_formed = worked_formed }
