use Rattle.std.proofs.Common.{ℕ, List, ◌++◌, ◌∙◌, subst}
use Rattle.std.specs.Prelude.{codes}
use Rattle.text_out.specs.Out.{Writes}
use Rattle.std.proofs.Common.{append-nil}
use Rattle.pictures.proofs.names.write_line.Goals as goal

pub returns : goal.returns
returns g c =
    let digits = append-nil _ ∙ c.as_bytes.ensures.value ∙ c.format.ensures.text in
    record {
      written = subst (λ (t : List ℕ). Writes (g.W.Out.state c.args.out.now) (g.W.Out.state c.write_parts.new.self) t
          c.write_parts.result)
          (λ i. codes " line " ++ (digits i)) c.write_parts.ensures.written;
    }
