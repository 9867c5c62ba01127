use Rattle.std.proofs.Common.{set, ap, sym, ◌∙◌, None, arith}
use Rattle.combining.proofs.SlotLemmas.{places_set, places_past}
use Rattle.combining.proofs.slots.Slots.empty_at.Goals as goal

pub returns-then-at-len : goal.returns-then-at-len
returns-then-at-len c =
    let v = c.self.inside.slots.ok in
    places_set c.self.inside.size c.self.inside.slots.items c.args.at (record c.index_mut.result.now { state = 0 }) (omega (arith, v))
    ∙ ap (λ l. set l c.args.at None) c.self.view_is

pub returns-else-at-len : goal.returns-else-at-len
returns-else-at-len c =
    let v = c.self.inside.slots.ok in
    sym c.self.view_is ∙ places_past c.self.inside.size c.self.inside.slots.items c.args.at (omega (arith, v))
    ∙ ap (λ l. set l c.args.at None) c.self.view_is
