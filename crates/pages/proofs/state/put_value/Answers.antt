use Rattle.std.proofs.Common.{◌∙◌, ap, set, w64}
use Rattle.std.proofs.lemmas.Int.{to_z-of_z}
use Rattle.pages.proofs.Values.{set_value}
use Rattle.pages.proofs.state.put_value.Goals as goal

pub returns : goal.returns
returns c =
    let items = c.put_zeros.new.values.items in
    ap (set items c.args.at) (to_z-of_z w64 c.args.value c.ranges.value)
    ∙ set_value items c.args.at c.args.value c.in_ok-put_zeros.ensures.reaches ∙ c.in_ok-put_zeros.ensures.same c.args.value
