use Rattle.std.proofs.Common.{◌∙◌, ℕ, List, FitsSigned, rules, subst, w64}
use Rattle.std.proofs.lemmas.Int.{to_z-of_z}
use Rattle.text_out.specs.Out.{Writes}
use Rattle.svg_texts.specs.Shapes.{shape_text}
use Rattle.pictures.specs.Flows.MarkShapes.{node_shape}
use Rattle.pictures.proofs.flows.marks.write_node_by.Goals as goal

pub returns : goal.returns
returns g c =
    let fits : FitsSigned w64 c.value_in-value.result = search rules in
    let value = to_z-of_z w64 c.value_in-value.result fits ∙ c.value_in-value.ensures in
    record {
      written = subst (λ (t : List ℕ). Writes (g.W.Out.state c.args.out.now) (g.W.Out.state c.write_node.new.out) t c.write_node.result)
          (λ i. shape_text (node_shape c.args.rows.now (record { cell = c.args.cell; column = c.args.column; value = value i })))
          c.write_node.ensures.written;
    }
