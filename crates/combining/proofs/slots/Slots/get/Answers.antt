use Rattle.std.proofs.Common.{◌∙◌, ap, sym, List, Option, arith}
use Rattle.write_rules.specs.declared.entry.Entry.{Entry}
use Rattle.combining.specs.Gathering.{slot}
use Rattle.combining.proofs.SlotLemmas.{length_places, slot_kept, slot_past}
use Rattle.combining.proofs.slots.Slots.get.Goals as goal

pub returns-then-at-len : goal.returns-then-at-len
returns-then-at-len c =
    let items = c.self.inside.slots.items in
    let size = c.self.inside.size in
    let v = c.self.inside.slots.ok in
    let n = length_places size items in
    let r = rw (← c.self.view_is) at c.requires in
    c.entry_if.ensures
    ∙ slot_kept size items c.args.at c.index.result.now (omega (arith, n, r)) (omega (arith, v)) c.index.ensures
    ∙ ap (λ (xs : List (Option Entry)). slot xs c.args.at) c.self.view_is

pub returns-else-at-len : goal.returns-else-at-len
returns-else-at-len c =
    let items = c.self.inside.slots.items in
    let v = c.self.inside.slots.ok in
    sym (slot_past c.self.inside.size items c.args.at (omega (arith, v))
    ) ∙ ap (λ (xs : List (Option Entry)). slot xs c.args.at) c.self.view_is
