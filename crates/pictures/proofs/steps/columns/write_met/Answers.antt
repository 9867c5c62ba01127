use Rattle.std.proofs.Common.{ℕ, List, ◌∙◌, ap, rules, subst, w64, FitsSigned}
use Rattle.std.proofs.lemmas.Int.{to_z-of_z}
use Rattle.text_out.specs.Out.{Writes}
use Rattle.svg_texts.specs.Shapes.{shape_text}
use Rattle.pictures.specs.Steps.Columns.{met_at}
use Rattle.pictures.specs.Steps.Drawn.{place_of}
use Rattle.pictures.specs.Steps.Measures.{column_is}
use Rattle.pictures.proofs.steps.columns.write_met.Goals as goal

pub returns : goal.returns
returns g c =
    let fits : FitsSigned w64 c.args.index.now = search rules in
    let index = to_z-of_z w64 c.args.index.now fits in
    let at = c.place_of.ensures.value ∙ ap (place_of c.args.rows.now) index in
    record {
      written = subst (λ (t : List ℕ). Writes (g.W.Out.state c.args.out.now) (g.W.Out.state c.write_met_at.new.out) t c.write_met_at.result)
          (λ i. shape_text (met_at c.args.rows.now (column_is c.args.at) (at i) (index i))) c.write_met_at.ensures.written;
    }
