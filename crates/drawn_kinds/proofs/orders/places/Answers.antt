use Rattle.std.proofs.Common.{◌∙◌, arith}
use Rattle.drawn_kinds.proofs.Shuffles.{place_more}
use Rattle.drawn_kinds.proofs.orders.places.Goals as goal

pub loop-place-preserved : goal.loop-place-preserved
loop-place-preserved c =
    let before = c.loop-place.invariant in
    record {
      places = c.in_ok-push.ensures.items ∙ place_more c.loop-place.place c.loop-place.found.items before.places;
      count = omega (arith, c.in_ok-push.ensures.len, before.count);
    }
