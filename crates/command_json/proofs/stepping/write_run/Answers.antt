use Rattle.std.proofs.Common.{refl}
use Rattle.std.specs.String.{string_bytes}
use Rattle.program_texts.specs.Status.{status_of}
use Rattle.command_facts.specs.Found.{cut_at}
use Rattle.command_facts.proofs.Steps.{all_of_it}
use Rattle.command_json.proofs.StepsTold.{cut_in_outcome, cut_told, cut_within, outcome_as, told_whole, unmade}
use Rattle.command_json.proofs.stepping.write_run.Goals as goal

pub returns-in_err-ending : goal.returns-in_err-ending
returns-in_err-ending g c =
    let s = c.args.steps.now in
    record {
      told = cut_told s _ s.limit.bound _ _ c.in_err-ending.field-0.0 c.from_residual.ensures.1 (all_of_it s)
          (cut_within s _ _ _ c.in_err-ending.ensures.cut);
    }

pub returns-in_err-line : goal.returns-in_err-line
returns-in_err-line g c =
    let s = c.args.steps.now in
    let r = c.in_ok-ending.ending in
    record {
      told = cut_told s _ r.bound _ _ _ c.from_residual-in_err-line.ensures.1 c.in_ok-ending.ensures.ends
          (unmade (cut_at s r.bound) _ _ c.in_ok-ending.ensures.lines _ refl);
    }

pub returns-in_err-write_json : goal.returns-in_err-write_json
returns-in_err-write_json g c =
    let r = c.in_ok-ending.ending in
    let s = cut_at c.args.steps.now r.bound in
    let o = r.outcome in
    let line = string_bytes c.in_ok-line.line in
    record {
      told = cut_told c.args.steps.now _ r.bound _ _ c.in_err-write_json.field-0.0 c.from_residual-in_err-write_json.ensures.1
          c.in_ok-ending.ensures.ends
          (cut_in_outcome s _ _ c.in_ok-ending.ensures.lines o c.in_ok-ending.ensures.outcome line
          (outcome_as s o _ line c.layout-layout.ensures c.in_ok-line.ensures.json) _ (status_of o) _ c.in_err-write_json.ensures.written);
    }

pub returns : goal.returns
returns g c =
    let r = c.in_ok-ending.ending in
    let s = cut_at c.args.steps.now r.bound in
    let o = r.outcome in
    let line = string_bytes c.in_ok-line.line in
    record {
      told = (
        c.in_ok-ending.ensures.ends,
        told_whole s _ _ c.in_ok-ending.ensures.lines o c.in_ok-ending.ensures.outcome line
            (outcome_as s o _ line c.layout-layout.ensures c.in_ok-line.ensures.json) _ _ _ c.in_ok-write_json.ensures.written,
      );
    }
