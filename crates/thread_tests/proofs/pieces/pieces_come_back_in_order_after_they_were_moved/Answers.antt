use Rattle.std.proofs.Common.{◌++◌, ap, ◌∙◌, map, reverse}
use Rattle.exchange_arena.proofs.PieceLists.{map-turned_twice}
use Rattle.exchange_arena.specs.Piece.{emptied_piece}
use Rattle.thread_tests.proofs.pieces.pieces_come_back_in_order_after_they_were_moved.Goals as goal

pub join-requires-2 : goal.join-requires-2
join-requires-2 g c =
    let all = c.in_ok-block.pieces.items in let turned = c.number_from_the_end.new.pieces.items in
    let there = c.move_round.ensures.moved ∙ ap (λ l. l ++ reverse all) c.in-Ok.ensures.items in
    let back = c.move_round-2.ensures.moved ∙ ap (λ l. l ++ reverse turned) c.move_round.ensures.empty in record {
      covered = ap (map emptied_piece) back ∙ map-turned_twice emptied_piece all turned (c.number_from_the_end.ensures.same
          ∙ ap (map emptied_piece) there) ∙ c.in_ok-block.ensures.covered;
    }
