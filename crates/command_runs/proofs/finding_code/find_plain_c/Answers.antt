use Rattle.std.proofs.Common.{◌∙◌, inr, subst, sym}
use Rattle.command_runs.specs.Runs.{IsCodeOfFile}
use Rattle.command_runs.proofs.finding_code.find_plain_c.Goals as goal

-- memory was refused
pub returns-in-Err-clause-refused : goal.returns-in-Err-clause-refused
returns-in-Err-clause-refused g c =
    let found = c.in_ok-code.ensures.found in
    let compiled = found.2 in
    inr (
      (compiled.program, record { expansion = found.0; is_expansion = found.1; is_program = compiled.is_program }),
      c.from-in-Err.ensures.0 ∙ c.from.ensures,
      c.from-in-Err.ensures.1,
    )
