use Rattle.std.proofs.Common.{List, ap, refl, subst}
use Rattle.text_out.specs.Out.{Writes}
use Rattle.write_rules.specs.Verdict.{verdict_of}
use Rattle.costs.specs.declared.line_cost.LineCost.{LineCost}
use Rattle.text_out.proofs.Progress.{breaks_off, closes, goes_on, starts}
use Rattle.costs.specs.CostText.{cost_text, lines_text}
use Rattle.command_text.specs.Costs.{if_asked}
use Rattle.command_text.proofs.writing.write_numbers.Goals as goal

pub returns-in_err-write_cost : goal.returns-in_err-write_cost
returns-in_err-write_cost g c =
    let cost = c.args.cost.now in
    let words = c.args.words in
    record {
      written = breaks_off _ _ _ _ _ (cost_text (verdict_of c.args.outcome.now) cost words.schedule)
          (if_asked words.lines (lines_text cost.lines.items))
          c.from_residual.result _ c.from_residual.ensures.1 (starts _ _) refl c.in_err-write_cost.ensures.written;
    }

pub returns-then-words : goal.returns-then-words
returns-then-words g c =
    let cost = c.args.cost.now in
    let words = c.args.words in
    let told = goes_on _ _ _ _ _ (cost_text (verdict_of c.args.outcome.now) cost words.schedule)
    (if_asked words.lines (lines_text cost.lines.items))
    (starts _ _) refl c.in_ok-write_cost.ensures.written in
    let P : List LineCost → Type 0 = λ ls. Writes (g.O.Out.state c.write_cost.new.out) (g.O.Out.state c.write_lines.new.out) (lines_text ls)
    c.write_lines.result in
    let lines = subst P c.deref.ensures.value c.write_lines.ensures.written in
    record {
      written = closes _ _ _ _ _ c.write_lines.result told
          (rw (ap (λ b. if_asked b (lines_text cost.lines.items)) c.if-words.true) lines);
    }
