use Rattle.std.proofs.Common.{ℕ, List, ◌∙◌, ap, subst, w64}
use Rattle.std.proofs.lemmas.Int.{to_z-of_z}
use Rattle.std.specs.Fmt.{signed_decimal}
use Rattle.text_out.specs.Out.{Writes}
use Rattle.pictures.proofs.steps.bands.write_index.Goals as goal

pub returns : goal.returns
returns g c =
    let digits = c.as_bytes.ensures.value ∙ c.format.ensures.text ∙ ap signed_decimal (to_z-of_z w64 c.args.index c.ranges.index) in
    record {
      written = subst (λ (t : List ℕ). Writes (g.W.Out.state c.args.out.now) (g.W.Out.state c.write_all.new.self) t c.write_all.result)
          digits c.write_all.ensures.written;
    }
