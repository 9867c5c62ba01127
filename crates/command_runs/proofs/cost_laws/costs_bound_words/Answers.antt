use Rattle.command_runs.proofs.WordsTold.{costs_bound_words}
use Rattle.command_runs.proofs.cost_laws.costs_bound_words.Goals as goal

pub returns : goal.returns
returns c = costs_bound_words
