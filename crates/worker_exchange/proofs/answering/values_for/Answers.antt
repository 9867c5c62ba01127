use Rattle.std.proofs.Common.{◌^◌, ◌∙◌}
use Rattle.std.proofs.lemmas.List.{get_or-take}
use Rattle.std.proofs.Common.{None}
use Rattle.combining.proofs.AscendingAsks.{below_take}
use Rattle.worker_exchange.proofs.answering.values_for.Goals as goal

pub take_values-requires-clause-below : goal.take_values-requires-clause-below
take_values-requires-clause-below c = below_take (2 ^ 20) c.args.many c.args.cells.now c.requires.below

pub returns-clause-each : goal.returns-clause-each
returns-clause-each c = λ j cell l e.
    c.take_values.ensures.each j cell (get_or-take c.args.many c.args.cells.now j None l ∙ e)
