use Rattle.bsp_verify.proofs.RunLemmas.{moments_sound}
use Rattle.bsp_verify.proofs.runs_law.moments_are_sound.Goals as goal

pub returns : goal.returns
returns c = moments_sound
