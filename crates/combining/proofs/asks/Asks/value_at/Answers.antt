use Rattle.std.proofs.Common.{rules, ◌∙◌, ap, sym, get_or, pos, FitsSigned, w64}
use Rattle.std.proofs.lemmas.Int.{to_z-of_z}
use Rattle.combining.proofs.AskPlaces.{values_paired}
use Rattle.combining.proofs.asks.Asks.value_at.Goals as goal

pub returns : goal.returns
returns c =
    let ks = c.self.inside.index.keys in
    let xs = c.self.inside.asked.items in
    let fits : FitsSigned w64 c.value.result = search rules in
    record {
      value = rw (← c.self.view_is)
          (to_z-of_z w64 c.value.result fits ∙ c.value.ensures
          ∙ sym (ap (λ vs. get_or vs c.args.place (pos 0)) (values_paired ks xs c.self.invariant.1)));
    }
