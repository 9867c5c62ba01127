use Rattle.std.proofs.Common.{◌++◌, ◌∙◌, List, ℕ, ap, codes, subst}
use Rattle.std.specs.Prelude.{decimal}
use Rattle.text_out.specs.Out.{Writes}
use Rattle.command_text.proofs.explaining.write_cycle.Goals as goal

pub returns : goal.returns
returns g c =
    let first = ap (λ d. codes "this never ends: the loop of line " ++ (d ++ (codes " comes back to the same state after "
    ++ (c.as_bytes-2.result.now ++ codes " statements\n")))) (c.as_bytes.ensures.value ∙ c.format.ensures.text) in
    let second = ap (λ d. codes "this never ends: the loop of line " ++
    (decimal c.args.cycle.line ++ (codes " comes back to the same state after "
    ++ (d ++ codes " statements\n")))) (c.as_bytes-2.ensures.value ∙ c.format-2.ensures.text) in
    record {
      written = subst (λ (t : List ℕ). Writes (g.E.Out.state c.args.err.now) (g.E.Out.state c.write_parts.new.self) t c.write_parts.result)
          (first ∙ second) c.write_parts.ensures.written;
    }
