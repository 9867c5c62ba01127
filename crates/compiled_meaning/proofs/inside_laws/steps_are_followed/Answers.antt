use Rattle.compiled_meaning.proofs.Inside.Steps.{steps_are_followed}
use Rattle.compiled_meaning.proofs.inside_laws.steps_are_followed.Goals as goal

pub returns : goal.returns
returns c = record { steps = steps_are_followed }
