use Rattle.std.proofs.Common.{ℕ, List, ◌++◌, ◌∙◌, subst}
use Rattle.std.specs.Prelude.{codes}
use Rattle.text_out.specs.Out.{Writes}
use Rattle.std.proofs.Common.{FitsSigned, append-nil, rules}
use Rattle.std.proofs.Common.{ap, w64}
use Rattle.std.proofs.lemmas.Int.{to_z-of_z}
use Rattle.std.specs.Fmt.{signed_decimal}
use Rattle.pictures.proofs.steps.foot.write_index.Goals as goal

pub returns : goal.returns
returns g c =
    let fits : FitsSigned w64 c.args.index.now = search rules in
    let index = append-nil _ ∙ c.as_bytes.ensures.value ∙ c.format.ensures.text ∙ ap signed_decimal (to_z-of_z w64 c.args.index.now fits)
    in
    record {
      written = subst (λ (t : List ℕ). Writes (g.W.Out.state c.args.out.now) (g.W.Out.state c.write_parts.new.self) t
          c.write_parts.result)
          (λ i. codes " " ++ (index i)) c.write_parts.ensures.written;
    }
