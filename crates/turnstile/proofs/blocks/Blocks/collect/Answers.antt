use Rattle.std.proofs.Common.{◌/◌, List, Option, ◌∙◌, sym, subst}
use Rattle.std.specs.Slots.{slots_items}
use Rattle.exchange_arena.specs.Piece.{PieceState}
use Rattle.exchange_arena.specs.Block.{BlockShape}
use Rattle.turnstile.specs.Shelves.{Offers}
use Rattle.turnstile.proofs.Halves.{apart, even_offered, odd_offered, half_of}
use Rattle.turnstile.proofs.blocks.Blocks.collect.Goals as goal

pub collect-requires-clause-pieces : goal.collect-requires-clause-pieces
collect-requires-clause-pieces c = let e = c.self.inside.even in let o = c.self.inside.odd in let b =
    apart c.args.self e o c.self.view_is c.self.invariant.0 c.self.invariant.1 in
    subst (λ (z : BlockShape). Offers z 0 (slots_items c.args.closed.slots)) b.0
    (even_offered c.args.self (slots_items c.args.closed.slots) c.requires.laid)

pub collect-requires-2-clause-pieces : goal.collect-requires-2-clause-pieces
collect-requires-2-clause-pieces c = let e = c.self.inside.even in let o = c.self.inside.odd in let b =
    apart c.args.self e o c.self.view_is c.self.invariant.0 c.self.invariant.1 in
    let half = half_of c.args.self.side c.slot_count-half.result (c.slot_count-half.ensures ∙ c.requires.count) in
    subst (λ (z : List (Option PieceState)). Offers o (c.slot_count-half.result / 2) z) (sym c.collect.ensures.same.0)
    (subst (λ (z : BlockShape). Offers z (c.slot_count-half.result / 2) (slots_items c.args.closed.slots)) b.1
    (odd_offered c.args.self (c.slot_count-half.result / 2) (slots_items c.args.closed.slots) half c.requires.laid))
