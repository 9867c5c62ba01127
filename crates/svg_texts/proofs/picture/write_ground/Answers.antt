use Rattle.std.proofs.Common.{ℕ, List, ◌++◌, ◌∙◌, subst}
use Rattle.std.specs.Prelude.{codes}
use Rattle.text_out.specs.Out.{Writes}
use Rattle.svg_texts.proofs.picture.write_ground.Goals as goal

pub returns : goal.returns
returns g c =
    let width = c.as_bytes.ensures.value ∙ c.format.ensures.text in
    let height = c.as_bytes-2.ensures.value ∙ c.format-2.ensures.text in
    record {
      written = subst (λ (t : List ℕ). Writes (g.W.Out.state c.args.out.now) (g.W.Out.state c.write_parts.new.self) t
          c.write_parts.result)
          (λ i. codes "</title>\n<defs><pattern id='stripes' width='4' height='4' patternUnits='userSpaceOnUse'>" ++ (codes
          "<rect width='4' height='4' fill='#ffffff'/><rect width='4' height='2' fill='#e69f00'/></pattern></defs>\n<rect width='" ++
          (width i ++ (codes "' height='" ++ (height i ++ (codes "' fill='#ffffff'/>\n")))))) c.write_parts.ensures.written;
    }
