use Rattle.write_rules.specs.Verdict.{verdict_of}
use Rattle.program_runs.proofs.RunLemmas.{run_kept}
use Rattle.program_runs.proofs.on_map.run_on.Goals as goal

pub returns-in-Ok-clause-run : goal.returns-in-Ok-clause-run
returns-in-Ok-clause-run g c =
    let e = c.in-Ok.ensures in
    let found = c.in-Ok.found in
    run_kept c.args.code.now (g.M.AddressMap.shape c.args.map.now) c.args.input.now c.args.options c.args.reserve
    (verdict_of found.0) found.1
    (record { workers = c.requires.workers; least = c.requires.least; is_map = c.requires.placed; lawful = c.lawful.ensures })
    e.accepted.short e.outcome e.counts e.within
