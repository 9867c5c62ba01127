use Rattle.std.proofs.Common.{◌∙◌, SFits, arith, get_or, length, length-set, pos, refl, rules, w64}
use Rattle.std.proofs.lemmas.Int.{to_z-of_z}
use Rattle.drawn_kinds.proofs.Distinct.{order_below}
use Rattle.drawn_kinds.proofs.Placing.{place_value}
use Rattle.drawn_kinds.proofs.places.placed.Goals as goal

pub index_mut-requires : goal.index_mut-requires
index_mut-requires c =
    let below = order_below (length c.args.order.now) c.args.order.now c.loop-turn.turn c.requires.order (omega arith) in
    omega (arith, below, c.loop-turn.found.ok.0, c.loop-turn.invariant.count)

pub loop-turn-preserved : goal.loop-turn-preserved
loop-turn-preserved c =
    let before = c.loop-turn.invariant in
    let fits : SFits w64 (get_or c.args.beside.now c.loop-turn.turn (pos 0)) = search rules in
    rw (to_z-of_z w64 (get_or c.args.beside.now c.loop-turn.turn (pos 0)) fits)
    (record {
      count = length-set c.loop-turn.found.items _ _ ∙ before.count;
      follows =
          place_value c.loop-turn.turn c.args.order.now c.args.beside.now c.loop-turn.found.items _ c.requires.order before.count
          (omega arith) refl before.follows;
    })
