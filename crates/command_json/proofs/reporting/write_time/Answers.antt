use Rattle.std.proofs.Common.{◌++◌, ◌∙◌, List, ℕ, ap, codes, subst}
use Rattle.std.specs.Prelude.{decimal}
use Rattle.text_out.specs.Out.{Writes}
use Rattle.command_json.proofs.reporting.write_time.Goals as goal

pub returns : goal.returns
returns g c =
    let first = ap (λ d. codes "{\"bound\":" ++ (d ++ (codes ",\"seconds\":" ++ (c.as_bytes-2.result.now ++ codes "}\n"))))
    (c.as_bytes.ensures.value ∙ c.format.ensures.text) in
    let second = ap (λ d. codes "{\"bound\":" ++ (decimal c.args.bound ++ (codes ",\"seconds\":" ++ (d ++ codes "}\n"))))
    (c.as_bytes-2.ensures.value ∙ c.format-2.ensures.text) in
    record {
      written = subst (λ (t : List ℕ). Writes (g.E.Out.state c.args.err.now) (g.E.Out.state c.write_parts.new.self) t c.write_parts.result)
          (first ∙ second) c.write_parts.ensures.written;
    }
