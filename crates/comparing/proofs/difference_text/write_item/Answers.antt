use Rattle.std.proofs.Common.{◌++◌, ◌∙◌, List, codes, subst, ℕ}
use Rattle.text_out.specs.Out.{Writes}
use Rattle.comparing.proofs.difference_text.write_item.Goals as goal

pub returns : goal.returns
returns g c =
    record {
      written = subst
          (λ (t : List ℕ). Writes (g.W.Out.state c.args.out.now) (g.W.Out.state c.write_parts.new.self)
          (codes "output item " ++ (t ++ codes " is ")) c.write_parts.result)
          (c.as_bytes.ensures.value ∙ c.format.ensures.text) c.write_parts.ensures.written;
    }
