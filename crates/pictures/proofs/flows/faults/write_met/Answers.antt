use Rattle.std.proofs.Common.{ℕ, List, ◌<◌, arith, length, subst, sym}
use Rattle.std.proofs.lemmas.Grind.{common_steps}
use Rattle.text_out.specs.Out.{Writes}
use Rattle.svg_texts.specs.Shapes.{shape_text}
use Rattle.pictures.proofs.OfFlows.ColumnLists.{some_named}
use Rattle.pictures.proofs.flows.faults.write_met.Goals as goal

pub returns-else-is_empty : goal.returns-else-is_empty
returns-else-is_empty g c =
    let some : 0 < length c.args.met.now = grind (arith, common_steps) in
    record {
      written = subst (λ (t : List ℕ). Writes (g.W.Out.state c.args.out.now) (g.W.Out.state c.write_some_met.new.out) t
          c.write_some_met.result)
          (λ i. shape_text (sym (some_named c.args.y c.args.met.now some) i)) c.write_some_met.ensures.written;
    }
