use Rattle.std.proofs.Common.{◌++◌, ◌∙◌, List, ℕ, ap, codes, subst}
use Rattle.text_out.specs.Out.{Writes}
use Rattle.diagnoses.proofs.syntax_faults.write_open_sentence.Goals as goal

pub returns : goal.returns
returns g c =
    let whole =
    ap (λ d. codes "the text ends here, and the \"" ++ (c.args.word.now ++ (codes "\" of line " ++ (d ++ codes " has no \"end\""))))
    (c.as_bytes.ensures.value ∙ c.format.ensures.text) in
    record {
      written = subst (λ (t : List ℕ). Writes (g.W.Out.state c.args.out.now) (g.W.Out.state c.write_parts.new.self) t c.write_parts.result)
          whole c.write_parts.ensures.written;
    }
