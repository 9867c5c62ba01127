use Rattle.std.proofs.Common.{◌++◌, ◌∙◌, List, ℕ, ap, codes, subst}
use Rattle.std.specs.Prelude.{decimal}
use Rattle.text_out.specs.Out.{Writes}
use Rattle.command_text.proofs.explaining.write_time.Goals as goal

pub returns : goal.returns
returns g c =
    let first = ap (λ d. codes "--seconds " ++ (d ++ (codes " ended the run after statement " ++ (c.as_bytes-2.result.now ++ codes "\n"))))
    (c.as_bytes.ensures.value ∙ c.format.ensures.text) in
    let second = ap (λ d. codes "--seconds " ++ (decimal c.args.seconds ++ (codes " ended the run after statement " ++ (d ++ codes "\n"))))
    (c.as_bytes-2.ensures.value ∙ c.format-2.ensures.text) in
    record {
      written = subst (λ (t : List ℕ). Writes (g.E.Out.state c.args.err.now) (g.E.Out.state c.write_parts.new.self) t c.write_parts.result)
          (first ∙ second) c.write_parts.ensures.written;
    }
