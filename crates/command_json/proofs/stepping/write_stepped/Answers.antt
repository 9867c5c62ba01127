use Rattle.std.proofs.Common.{◌∙◌, ap, refl, subst}
use Rattle.std.specs.String.{string_bytes}
use Rattle.text_out.specs.Out.{StopsIn, with_bytes}
use Rattle.command_json.specs.Stepped.{Unbegun}
use Rattle.command_json.proofs.StepsTold.{not_told, stopped_in_opening, told_behind}
use Rattle.command_json.proofs.stepping.write_stepped.Goals as goal

pub returns-in_err-line : goal.returns-in_err-line
returns-in_err-line g c = record { told = not_told c.args.steps.now _ _ _ _ c.from_residual.ensures.1 (Unbegun refl) }

pub returns-in_err-write_all : goal.returns-in_err-write_all
returns-in_err-write_all g c =
    let line = string_bytes c.in_ok-line.line in
    let stops = subst (StopsIn (g.O.Out.state c.args.out.now) (g.O.Out.state c.write_all.new.self)) c.as_bytes.ensures.value
    c.in_err-write_all.ensures.written in
    record {
      told = not_told c.args.steps.now _ _ _ _ c.from_residual-in_err-write_all.ensures.1
          (stopped_in_opening c.args.steps.now _ _ line c.in_ok-line.ensures.json stops);
    }

pub returns : goal.returns
returns g c =
    let line = string_bytes c.in_ok-line.line in
    let old = g.O.Out.state c.args.out.now in
    record {
      told = told_behind c.args.steps.now old (g.O.Out.state c.write_all.new.self) line c.in_ok-line.ensures.json
          (c.in_ok-write_all.ensures.written ∙ ap (with_bytes old) c.as_bytes.ensures.value) _ _ c.write_run.ensures.told;
    }
