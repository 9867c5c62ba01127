use Rattle.std.proofs.Common.{◌∙◌, inr}
use Rattle.command_facts.proofs.Programs.{code_in, program_in}
use Rattle.command_runs.proofs.finding_code.find_code.Goals as goal

pub returns-in-Ok-clause-found : goal.returns-in-Ok-clause-found
returns-in-Ok-clause-found g c =
    code_in (g.S.Sources.holds c.args.sources.now) c.args.file.now c.in_ok-loaded.loaded c.in-Ok.code c.in_ok-loaded.ensures.loaded
    (λ text is. record {
      program = c.in_ok-loaded.loaded.program;
      is_program = is;
      is_code = c.in-Ok.ensures.code;
      means = c.in-Ok.ensures.meaning;
    })

-- memory was refused
pub returns-clause-refused : goal.returns-clause-refused
returns-clause-refused g c =
    let loaded = c.in_ok-loaded.loaded in
    inr (
      (loaded.program, program_in (g.S.Sources.holds c.args.sources.now) c.args.file.now loaded c.in_ok-loaded.ensures.loaded),
      c.from-in-Err.ensures.0 ∙ c.from.ensures,
      c.from-in-Err.ensures.1,
    )
