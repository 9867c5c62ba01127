use Rattle.std.proofs.Common.{◌++◌, ◌∙◌, List, ℕ, ap, codes, subst}
use Rattle.text_out.specs.Out.{Writes}
use Rattle.command_text.proofs.explaining.write_bound.Goals as goal

pub returns : goal.returns
returns g c =
    let whole = ap (λ d. codes "the run met its bound of " ++ (d ++ codes " statements: --bound N gives it others\n"))
    (c.as_bytes.ensures.value ∙ c.format.ensures.text) in
    record {
      written = subst (λ (t : List ℕ). Writes (g.E.Out.state c.args.err.now) (g.E.Out.state c.write_parts.new.self) t c.write_parts.result)
          whole c.write_parts.ensures.written;
    }
