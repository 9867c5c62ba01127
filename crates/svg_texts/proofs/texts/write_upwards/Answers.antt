use Rattle.std.proofs.Common.{ℕ, List, ◌++◌, ◌∙◌, subst}
use Rattle.std.specs.Prelude.{codes}
use Rattle.text_out.specs.Out.{Writes}
use Rattle.svg_texts.proofs.texts.write_upwards.Goals as goal

pub returns : goal.returns
returns g c =
    let across = c.as_bytes.ensures.value ∙ c.format.ensures.text in
    let down = c.as_bytes-2.ensures.value ∙ c.format-2.ensures.text in
    record {
      written = subst (λ (t : List ℕ). Writes (g.W.Out.state c.args.out.now) (g.W.Out.state c.write_parts.new.self) t
          c.write_parts.result)
          (λ i. codes "<text transform='translate(" ++ (across i ++ (codes " " ++ (down i ++ (codes ")rotate(-90)'")))))
          c.write_parts.ensures.written;
    }
