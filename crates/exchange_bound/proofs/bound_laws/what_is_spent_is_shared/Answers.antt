use Rattle.exchange_bound.proofs.Shared.{held_joins, spent_joins, spent_is_shared}
use Rattle.exchange_bound.proofs.bound_laws.what_is_spent_is_shared.Goals as goal

pub returns : goal.returns
returns c = record { held = held_joins; spent = spent_joins; shared = spent_is_shared }
