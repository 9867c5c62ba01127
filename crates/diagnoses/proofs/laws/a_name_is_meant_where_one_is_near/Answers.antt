use Rattle.diagnoses.proofs.Guessed.{unguessed}
use Rattle.diagnoses.proofs.laws.a_name_is_meant_where_one_is_near.Goals as goal

pub returns : goal.returns
returns c = unguessed
