use Rattle.command_runs.proofs.Singles.{told_so, timed_so}
use Rattle.write_rules.specs.Verdict.{verdict_of}
use Rattle.command_runs.proofs.surveying.told_of_one.Goals as goal

pub returns-in-Ok-clause-just : goal.returns-in-Ok-clause-just
returns-in-Ok-clause-just c =
    told_so c.args.program.now c.args.input.now c.args.bound (verdict_of c.in-Ok.outcome) c.in-Ok.ensures.outcome c.overall_of.result
    c.overall_of.ensures.just c.overall_of.ensures.told

pub returns-in-Ok-clause-time : goal.returns-in-Ok-clause-time
returns-in-Ok-clause-time c =
    timed_so c.args.program.now c.args.input.now c.args.bound (verdict_of c.in-Ok.outcome) c.in-Ok.ensures.outcome c.overall_of.result
    c.in-Ok.taken.time c.overall_of.ensures.just c.overall_of.ensures.time c.in-Ok.ensures.time
