use Rattle.std.proofs.Common.{◌∙◌, ap, nat_eq, refl, set, w64}
use Rattle.std.proofs.lemmas.Int.{to_z-of_z}
use Rattle.std.specs.Prelude.{if◌then◌else◌}
use Rattle.pictures.specs.Flows.Values.{value_at}
use Rattle.pictures.proofs.OfFlows.CellValues.{set_by}
use Rattle.pictures.proofs.flows.values.put_value.Goals as goal

pub returns : goal.returns
returns c = λ k.
    let items = c.put_zeros.new.values.items in
    ap (λ v. value_at (set items c.args.cell v) k) (to_z-of_z w64 c.args.value c.ranges.value)
    ∙ set_by items c.args.cell k c.args.value (nat_eq c.args.cell k) refl c.in_ok-put_zeros.ensures.reaches
    ∙ ap (λ v. if nat_eq c.args.cell k then c.args.value else v) (c.in_ok-put_zeros.ensures.same k)
