use Rattle.scopes.proofs.Shrinkings.{as_many, keeps_wanted, no_further, none_left}
use Rattle.scopes.proofs.shrinking_laws.what_it_shrinks_to_is_wanted.Goals as goal

pub returns-clause-wanted : goal.returns-clause-wanted
returns-clause-wanted c = λ wanted xs zs h is. keeps_wanted wanted xs zs h is

pub returns-clause-last : goal.returns-clause-last
returns-clause-last c = λ wanted xs zs h. none_left wanted xs zs h

pub returns-clause-count : goal.returns-clause-count
returns-clause-count c = λ wanted xs zs h. as_many wanted xs zs h

pub returns-clause-near : goal.returns-clause-near
returns-clause-near c = λ wanted xs zs h. no_further wanted xs zs h
