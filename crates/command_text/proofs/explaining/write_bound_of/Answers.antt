use Rattle.std.proofs.Common.{◌++◌, ◌∙◌, Option, ap, refl, subst, sym}
use Rattle.std.proofs.lemmas.List.{append-nil}
use Rattle.text_out.specs.Out.{Writes, with_bytes}
use Rattle.text_places.proofs.Pieces.{both, stops_in_first}
use Rattle.endless_runs.specs.declared.cycle.Cycle.{Cycle}
use Rattle.command_text.specs.Explained.{bound_sentence, cycle_text}
use Rattle.command_text.proofs.explaining.write_bound_of.Goals as goal

pub returns-in_err-write_bound : goal.returns-in_err-write_bound
returns-in_err-write_bound g c = record {
  written = stops_in_first _ _ _ (bound_sentence c.args.bound) (cycle_text c.args.cycle) c.from_residual.result _ refl
      c.from_residual.ensures.1
      c.in_err-write_bound.ensures.written;
}

pub returns-in-Some : goal.returns-in-Some
returns-in-Some g c =
    let behind = subst (λ (o : Option Cycle). Writes (g.E.Out.state c.write_bound.new.err) (g.E.Out.state c.write_cycle.new.err)
    (cycle_text o)
    c.write_cycle.result) (sym c.in-Some.is) c.write_cycle.ensures.written in
    record {
      written = both _ _ _ _ (bound_sentence c.args.bound) (cycle_text c.args.cycle) c.write_cycle.result refl
          c.in_ok-write_bound.ensures.written behind;
    }

pub returns-in-None : goal.returns-in-None
returns-in-None g c =
    let whole = sym (append-nil (bound_sentence c.args.bound))
    ∙ ap (λ (o : Option Cycle). bound_sentence c.args.bound ++ cycle_text o) (sym c.in-None.is) in
    record { written = c.in_ok-write_bound.ensures.written ∙ ap (with_bytes (g.E.Out.state c.args.err.now)) whole }
