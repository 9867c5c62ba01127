use Rattle.bsp_verify.proofs.RunLemmas.{runs_sound}
use Rattle.bsp_verify.proofs.runs_law.runs_are_sound.Goals as goal

pub returns : goal.returns
returns c = runs_sound
