use Rattle.std.proofs.Common.{get_or, ap}
use Rattle.worker_exchange.specs.Shown.{is_stopped}
use Rattle.std.proofs.lemmas.Option.{slice_get-get_or}
use Rattle.bsp_machine.proofs.outcome.outcome.Goals as goal

pub take_memory-requires-clause-wide : goal.take_memory-requires-clause-wide
take_memory-requires-clause-wide g c =
    let workers = c.args.workers.now in
    c.requires.wide (get_or workers 0 c.index-workers-0.result) (slice_get-get_or workers 0 c.index-workers-0.result c.requires.some)
    (ap is_stopped c.in-Past-None-true.is)
