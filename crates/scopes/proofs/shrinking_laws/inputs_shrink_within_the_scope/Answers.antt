use Rattle.scopes.proofs.InScope.{shrinks_within, there_wrong, wrong_there}
use Rattle.scopes.proofs.shrinking_laws.inputs_shrink_within_the_scope.Goals as goal

pub returns-clause-inputs : goal.returns-clause-inputs
returns-clause-inputs c = λ s t p n wrong xs. (λ h. wrong_there s t p n wrong xs h, λ h. there_wrong s t p n wrong xs h.0 h.1)

pub returns-clause-within : goal.returns-clause-within
returns-clause-within c = λ s t p n wrong xs zs h in'. shrinks_within s t p n wrong xs zs h in'
