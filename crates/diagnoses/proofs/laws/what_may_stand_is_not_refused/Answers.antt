use Rattle.diagnoses.proofs.Judged.{as_judged}
use Rattle.diagnoses.proofs.laws.what_may_stand_is_not_refused.Goals as goal

pub returns : goal.returns
returns c = as_judged
