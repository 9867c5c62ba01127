use Rattle.scopes.proofs.Shrinkings.{no_other, some_there}
use Rattle.scopes.proofs.shrinking_laws.each_list_shrinks_to_one.Goals as goal

pub returns-clause-some : goal.returns-clause-some
returns-clause-some c = λ wanted xs. some_there wanted xs

pub returns-clause-one : goal.returns-clause-one
returns-clause-one c = λ wanted xs ys zs h k. no_other wanted xs ys zs h k
