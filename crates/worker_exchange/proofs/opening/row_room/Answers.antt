use Rattle.std.proofs.Common.{◌+◌, ◌-◌, ◌*◌, ◌/◌, sym, ap, ◌∙◌}
use Rattle.machine_limits.specs.Within.{words_for_each}
use Rattle.worker_exchange.proofs.opening.row_room.Goals as goal

pub returns-clause-value : goal.returns-clause-value
returns-clause-value c = λ m parts. λ i.
    (c.words_for_each.ensures ∙ ap words_for_each c.rule.ensures.value) i
    * ((c.procs.ensures.value i + (sym parts i - 1)) / sym parts i)
