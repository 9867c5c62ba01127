use Rattle.std.proofs.Common.{ℕ, List, [], ◌++◌, ◌∙◌, ap, subst}
use Rattle.std.proofs.lemmas.List.{append-nil}
use Rattle.std.specs.Prelude.{codes}
use Rattle.text_out.specs.Out.{Writes}
use Rattle.svg_texts.specs.Shapes.{colour_text, dashes_text, weight_text}
use Rattle.svg_texts.proofs.shapes.write_line_stroke.Goals as goal

pub returns : goal.returns
returns g c =
    let stroke = c.args.stroke.now in
    let front = λ (l : List ℕ). codes " stroke='" ++ (colour_text stroke.colour ++ (codes "' stroke-width='" ++
    (weight_text stroke.weight ++ (codes "'" ++ l)))) in
    record {
      written = subst (λ (t : List ℕ). Writes (g.W.Out.state c.args.out.now) (g.W.Out.state c.write_parts.new.self) t
          c.write_parts.result)
          ((λ i. codes " stroke='" ++ (c.colour_text.ensures i ++ (codes "' stroke-width='" ++ (c.weight_text.ensures i ++ (codes "'" ++
          (c.dashes_text.ensures i ++ [])))))) ∙ ap front (append-nil (dashes_text stroke.dashed)))
          c.write_parts.ensures.written;
    }
