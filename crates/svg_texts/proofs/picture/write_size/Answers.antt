use Rattle.std.proofs.Common.{ℕ, List, ◌++◌, ◌∙◌, subst}
use Rattle.std.specs.Prelude.{codes}
use Rattle.text_out.specs.Out.{Writes}
use Rattle.svg_texts.proofs.picture.write_size.Goals as goal

pub returns : goal.returns
returns g c =
    let width = c.as_bytes-width.ensures.value ∙ c.format.ensures.text in
    let height = c.as_bytes-height.ensures.value ∙ c.format-2.ensures.text in
    record {
      written = subst (λ (t : List ℕ). Writes (g.W.Out.state c.args.out.now) (g.W.Out.state c.write_parts.new.self) t
          c.write_parts.result)
          (λ i. codes "<svg xmlns='http://www.w3.org/2000/svg' version='1.1' width='" ++ (width i ++ (codes "' height='" ++ (height i ++
          (codes "' viewBox='0 0 " ++ (width i ++ (codes " " ++ (height i ++ (codes
          "' font-family='sans-serif' font-size='12' xml:space='preserve'>\n<title>"))))))))) c.write_parts.ensures.written;
    }
