use Rattle.std.proofs.Common.{None}
use Rattle.program_runs.proofs.on_map.refused_memory.Goals as goal

pub returns-in-Some : goal.returns-in-Some
returns-in-Some c = c.refusal_of.ensures c.args.code.now c.args.input.now c.args.options None c.in-Some.ensures.some
