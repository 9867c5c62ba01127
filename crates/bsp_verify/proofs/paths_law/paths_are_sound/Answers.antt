use Rattle.bsp_verify.proofs.PathLemmas.{paths_sound}
use Rattle.bsp_verify.proofs.paths_law.paths_are_sound.Goals as goal

pub returns : goal.returns
returns c = paths_sound
