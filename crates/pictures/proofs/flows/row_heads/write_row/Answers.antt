use Rattle.std.proofs.Common.{◌∙◌, ℕ, List, FitsSigned, rules, subst, w64}
use Rattle.std.proofs.lemmas.Int.{to_z-of_z}
use Rattle.text_out.specs.Out.{Writes}
use Rattle.svg_texts.specs.Shapes.{shape_text}
use Rattle.pictures.specs.Flows.Rows.{row_head}
use Rattle.pictures.proofs.flows.row_heads.write_row.Goals as goal

pub returns : goal.returns
returns g c =
    let fits : FitsSigned w64 c.value_at-value.result = search rules in
    let value = to_z-of_z w64 c.value_at-value.result fits ∙ c.value_at-value.ensures in
    record {
      written = subst (λ (t : List ℕ). Writes (g.W.Out.state c.args.out.now) (g.W.Out.state c.write_row_head.new.out) t
          c.write_row_head.result)
          (λ i. shape_text (row_head c.args.layout.now c.args.wide (c.y_at.ensures.y i) c.args.cell (value i)))
          c.write_row_head.ensures.written;
    }
