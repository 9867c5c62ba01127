use Rattle.scopes.proofs.Orders.{counted_apart, counted_orders}
use Rattle.scopes.proofs.Those.{counted_inputs}
use Rattle.scopes.proofs.scope_laws.inputs_are_so_many.Goals as goal

pub returns-clause-values : goal.returns-clause-values
returns-clause-values c = λ s n not_apart wide. counted_inputs s n not_apart wide

pub returns-clause-apart : goal.returns-clause-apart
returns-clause-apart c = λ s n is_apart wide. counted_apart s n is_apart wide

pub returns-clause-orders : goal.returns-clause-orders
returns-clause-orders c = λ s is_apart low high. counted_orders s is_apart low high
