use Rattle.std.proofs.Common.{subst}
use Rattle.std.specs.Prelude.{IfSome}
use Rattle.write_rules.specs.Verdict.{verdict_of}
use Rattle.tidying.specs.Tidied.{RunsAlike}
use Rattle.program_runs.proofs.TidiedRuns.{runs_of_code, refusals_of_code}
use Rattle.program_runs.proofs.on_map.outcome_of_tidied.Goals as goal

pub returns-in-Ok-Some-clause-run : goal.returns-in-Ok-Some-clause-run
returns-in-Ok-Some-clause-run g c =
    let made = c.in-Ok-Some.ensures in
    let code = c.args.code.now in
    let tidied = c.in-Ok-Some.tidied in
    let alike = subst (λ o. IfSome o (RunsAlike code)) c.in-Ok-Some.field-0-is made.alike in
    runs_of_code code tidied alike c.args.input.now c.args.options c.args.reserve verdict_of
    c.outcome_of_code.result c.outcome_of_code.ensures.run

pub returns-in-Ok-Some-clause-refused : goal.returns-in-Ok-Some-clause-refused
returns-in-Ok-Some-clause-refused g c =
    let made = c.in-Ok-Some.ensures in
    let code = c.args.code.now in
    let tidied = c.in-Ok-Some.tidied in
    let alike = subst (λ o. IfSome o (RunsAlike code)) c.in-Ok-Some.field-0-is made.alike in
    refusals_of_code code tidied alike c.args.input.now c.args.options c.args.reserve
    c.outcome_of_code.result c.outcome_of_code.ensures.refused
