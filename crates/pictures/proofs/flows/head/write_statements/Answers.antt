use Rattle.std.proofs.Common.{ℕ, List, ◌++◌, ◌∙◌, subst}
use Rattle.std.specs.Prelude.{codes}
use Rattle.text_out.specs.Out.{Writes}
use Rattle.pictures.proofs.flows.head.write_statements.Goals as goal

pub returns : goal.returns
returns g c =
    let all = c.as_bytes.ensures.value ∙ c.format.ensures.text in
    let some = c.as_bytes-2.ensures.value ∙ c.format-2.ensures.text in
    record {
      written = subst (λ (t : List ℕ). Writes (g.W.Out.state c.args.out.now) (g.W.Out.state c.write_parts.new.self) t
          c.write_parts.result)
          (λ i. all i ++ (codes " statements, " ++ (some i ++ (codes " of them drawn: those that touch shared memory"))))
          c.write_parts.ensures.written;
    }
