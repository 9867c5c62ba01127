use Rattle.workers.proofs.SizeLemmas.{past_is_more, past_is_more_output}
use Rattle.workers.proofs.seat_laws.past_is_more.Goals as goal

pub returns-clause-printed : goal.returns-clause-printed
returns-clause-printed c = past_is_more

pub returns-clause-output : goal.returns-clause-output
returns-clause-output c = past_is_more_output
