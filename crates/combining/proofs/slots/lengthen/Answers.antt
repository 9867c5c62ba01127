use Rattle.std.proofs.Common.{◌∙◌}
use Rattle.combining.proofs.SlotLemmas.{places_more}
use Rattle.combining.proofs.slots.lengthen.Goals as goal

pub loop-slots-preserved : goal.loop-slots-preserved
loop-slots-preserved c =
    let inv = c.loop-slots.invariant in
    rw (c.push_reserved.ensures.items) record {
      room = c.push_reserved.ensures.capacity ∙ inv.room;
      same = λ n. places_more n c.loop-slots.slots.items c.none.result c.none.ensures ∙ inv.same n;
    }
