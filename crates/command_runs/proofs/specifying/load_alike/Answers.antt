use Rattle.std.proofs.Common.{inr}
use Rattle.command_facts.proofs.Programs.{program_in}
use Rattle.command_runs.proofs.specifying.load_alike.Goals as goal

pub returns-in-Ok-clause-loaded : goal.returns-in-Ok-clause-loaded
returns-in-Ok-clause-loaded g c =
    let loaded = c.in_ok-loaded.loaded in (
      program_in (g.S.Sources.holds c.args.sources.now) c.args.file.now loaded c.in_ok-loaded.ensures.loaded,
      c.in-Ok.ensures.alike,
    )

pub returns-clause-refused : goal.returns-clause-refused
returns-clause-refused g c =
    let loaded = c.in_ok-loaded.loaded in
    inr (
      loaded.program,
      program_in (g.S.Sources.holds c.args.sources.now) c.args.file.now loaded c.in_ok-loaded.ensures.loaded,
      c.in-Err.ensures.unlike,
    )
