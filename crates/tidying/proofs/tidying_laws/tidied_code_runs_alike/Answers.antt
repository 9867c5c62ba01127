use Rattle.tidying.proofs.Alike.{tidied_code_runs_alike}
use Rattle.tidying.proofs.tidying_laws.tidied_code_runs_alike.Goals as goal

pub returns : goal.returns
returns c = tidied_code_runs_alike
