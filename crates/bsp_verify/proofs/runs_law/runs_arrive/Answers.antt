use Rattle.bsp_verify.proofs.ArrivalLemmas.{runs_arrive}
use Rattle.bsp_verify.proofs.runs_law.runs_arrive.Goals as goal

pub returns : goal.returns
returns c = runs_arrive
