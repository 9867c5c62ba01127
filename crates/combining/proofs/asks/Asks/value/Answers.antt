use Rattle.std.proofs.Common.{rules, ◌∙◌, ap, FitsSigned, w64}
use Rattle.std.proofs.lemmas.Int.{to_z-of_z}
use Rattle.combining.specs.Places.{place_of}
use Rattle.combining.specs.Asked.{value_there}
use Rattle.combining.proofs.AskPlaces.{value_is_there}
use Rattle.combining.proofs.asks.Asks.value.Goals as goal

pub returns : goal.returns
returns c =
    let ks = c.self.inside.index.keys in
    let xs = c.self.inside.asked.items in
    let fits : FitsSigned w64 c.value.result = search rules in
    record {
      value = rw (← c.self.view_is)
          (to_z-of_z w64 c.value.result fits ∙ c.value.ensures
          ∙ ap (value_there xs) (c.find.ensures.place ∙ ap (λ k. place_of k ks) c.ask_key.ensures)
          ∙ value_is_there c.args.ordinal c.args.cell ks xs c.self.invariant.1);
    }
