use Rattle.std.proofs.Common.{◌∙◌, ap}
use Rattle.combining.specs.Compact.{places_with}
use Rattle.combining.specs.Gathering.{slot}
use Rattle.combining.proofs.SlotLemmas.{length_places, no_entries}
use Rattle.combining.proofs.slots.Slots.empty.Goals as goal

pub returns-clause-long : goal.returns-clause-long
returns-clause-long c = length_places c.args.size _

pub returns-clause-none : goal.returns-clause-none
returns-clause-none c = λ o.
    ap (λ items. slot (places_with c.args.size items) o) c.in_ok-slots.ensures.items ∙ no_entries c.args.size o
