use Rattle.comparing.proofs.Fronts.{begins_first, begins_second, longest}
use Rattle.comparing.proofs.comparison_laws.the_front_is_the_longest_beginning.Goals as goal

pub returns-clause-both : goal.returns-clause-both
returns-clause-both c = λ l m. (begins_first l m, begins_second l m)

pub returns-clause-longest : goal.returns-clause-longest
returns-clause-longest c = λ es l m first second. longest es l m first second
