use Rattle.std.proofs.Common.{set, ap, ◌∙◌, Some, arith}
use Rattle.combining.specs.Compact.{places_with}
use Rattle.combining.proofs.SlotLemmas.{length_places, places_set}
use Rattle.combining.proofs.slots.Slots.keep.Goals as goal

pub overflow_add-at : goal.overflow_add-at
overflow_add-at c =
    let n = length_places c.self.inside.size c.self.inside.slots.items in
    let r = rw (← c.self.view_is) at c.requires in
    omega (arith, n, r)

pub make_places-requires : goal.make_places-requires
make_places-requires c =
    let n = length_places c.self.inside.size c.self.inside.slots.items in
    let r = rw (← c.self.view_is) at c.requires in
    let room = c.self.invariant in
    omega (arith, n, r, room)

pub returns : goal.returns
returns c =
    let items = c.make_places.new.slots.items in
    let size = c.self.inside.size in
    let long = c.make_places.ensures.long in
    places_set size items c.args.at c.of.result (omega (arith, long))
    ∙ ap (λ x. set (places_with size items) c.args.at x) c.of.ensures.some
    ∙ ap (λ l. set l c.args.at (Some c.args.entry)) (c.make_places.ensures.same size ∙ c.self.view_is)
