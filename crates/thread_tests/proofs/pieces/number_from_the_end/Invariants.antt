use Rattle.std.proofs.Common.{◌≡◌, map, length, vec_capacity}
use Rattle.exchange_arena.specs.Piece.{emptied_piece}
use Rattle.thread_tests.proofs.pieces.number_from_the_end.Given as goal

abbrev pub invariant-loop-k : goal.invariant-loop-k
invariant-loop-k l = record {
  count : l.count ≡ length l.pieces.items;
  same : map emptied_piece l.pieces.items ≡ map emptied_piece l.initial.pieces.items;
  capacity : vec_capacity l.pieces ≡ vec_capacity l.initial.pieces;
}
