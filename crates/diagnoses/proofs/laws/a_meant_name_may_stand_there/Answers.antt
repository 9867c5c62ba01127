use Rattle.diagnoses.proofs.Guessed.{guessed}
use Rattle.diagnoses.proofs.laws.a_meant_name_may_stand_there.Goals as goal

pub returns : goal.returns
returns c = guessed
