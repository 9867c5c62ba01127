use Rattle.std.proofs.Common.{List, arith, length, subst, sym, ℕ, ◌<◌}
use Rattle.std.proofs.lemmas.Grind.{common_steps}
use Rattle.text_out.specs.Out.{Writes}
use Rattle.pictures.proofs.OfSteps.MarkTexts.{some_code}
use Rattle.pictures.proofs.steps.program_lines.write_more.Goals as goal

pub returns-else-is_empty : goal.returns-else-is_empty
returns-else-is_empty g c =
    let some : 0 < length c.args.bytes.now = grind (arith, common_steps) in
    record {
      written = subst (λ (t : List ℕ). Writes (g.W.Out.state c.args.out.now) (g.W.Out.state c.write_code_row.new.out) t
          c.write_code_row.result) (sym (some_code c.args.x c.args.y c.args.bytes.now some)) c.write_code_row.ensures.written;
    }
