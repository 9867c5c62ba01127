use Rattle.scopes.proofs.Those.{ascending_inputs, each_once, just_those}
use Rattle.scopes.proofs.scope_laws.inputs_are_all_once_in_order.Goals as goal

pub returns-clause-all : goal.returns-clause-all
returns-clause-all c = λ s xs. just_those s xs

pub returns-clause-ascend : goal.returns-clause-ascend
returns-clause-ascend c = λ s. ascending_inputs s

pub returns-clause-once : goal.returns-clause-once
returns-clause-once c = λ s. each_once s
