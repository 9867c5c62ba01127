use Rattle.std.proofs.Common.{◌∙◌}
use Rattle.combining.specs.Places.{place_of}
use Rattle.combining.specs.Asked.{ask_key}
use Rattle.combining.proofs.AskPlaces.{value_is_there}
use Rattle.combining.proofs.asks.Asks.take_values.Goals as goal

pub returns-clause-each : goal.returns-clause-each
returns-clause-each c j cell e =
    let ks = c.self.inside.index.keys in
    let xs = c.self.inside.asked.items in
    rw (← c.self.view_is)
    (rw (c.keys.ensures.keys) at (c.values_near.ensures.each j cell e) ∙ c.came.ensures.each (place_of (ask_key c.args.ordinal cell) ks)
    ∙ value_is_there c.args.ordinal cell ks xs c.self.invariant.1)
