use Rattle.std.proofs.Common.{ap, ◌∙◌, not, length}
use Rattle.std.specs.Prelude.{◌==◌}
use Rattle.worker_exchange.proofs.ActiveLemmas.{active_is}
use Rattle.worker_exchange.proofs.telling.any_active.Goals as goal

pub returns : goal.returns
returns c = ap not (c.is_empty.ensures ∙ ap (λ xs. length xs == 0) c.active.ensures) ∙ active_is c.args.steps.now
