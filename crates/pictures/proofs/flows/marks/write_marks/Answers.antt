use Rattle.std.proofs.Common.{ℕ, List, subst}
use Rattle.text_out.specs.Out.{Writes}
use Rattle.svg_texts.specs.Shapes.{shape_text}
use Rattle.pictures.specs.Flows.Marks.{value_in}
use Rattle.pictures.specs.Flows.MarkShapes.{marks_of}
use Rattle.pictures.proofs.flows.marks.write_marks.Goals as goal

pub returns : goal.returns
returns g c =
    let acts = c.acts_in-acts.ensures in
    record {
      written = subst (λ (t : List ℕ). Writes (g.W.Out.state c.args.out.now) (g.W.Out.state c.write_acts.new.out) t c.write_acts.result)
          (λ i. shape_text (marks_of c.args.rows.now c.args.column (c.deref.ensures.value i)
          (value_in (acts i) (c.deref-2.ensures.value i)) (acts i)))
          c.write_acts.ensures.written;
    }
