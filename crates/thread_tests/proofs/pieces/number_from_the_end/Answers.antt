use Rattle.std.proofs.Common.{◌∙◌, sym, length-set}
use Rattle.exchange_arena.proofs.PieceLists.{map-slice_set_same}
use Rattle.exchange_arena.specs.Piece.{emptied_piece}
use Rattle.thread_tests.proofs.pieces.number_from_the_end.Goals as goal

pub loop-k-preserved : goal.loop-k-preserved
loop-k-preserved c =
    let now = c.loop-k.invariant in let pieces = c.loop-k.pieces.items in record {
      count = now.count ∙ sym (length-set pieces c.loop-k.k c.fill-filled.new.self);
      same = map-slice_set_same emptied_piece pieces c.loop-k.k c.index_mut.result.now c.fill-filled.new.self c.index_mut.ensures.value
          c.fill-filled.ensures.same ∙ now.same;
      capacity = now.capacity;
    }
