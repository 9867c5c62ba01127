use Rattle.std.proofs.Common.{◌≡◌, ◌+◌, ◌*◌, length, map}
use Rattle.exchange_arena.specs.Piece.{emptied_piece, stride}
use Rattle.exchange_arena.specs.Block.{first_pieces}
use Rattle.exchange_arena.proofs.block.Block.join.Given as goal

-- n pieces are left, and the run is all of the block behind them
abbrev pub invariant-loop-pieces : goal.invariant-loop-pieces
invariant-loop-pieces g l = let b = l.fn.self in let n = length l.pieces.items in record {
  base : l.run.base ≡ b.block;
  start : l.run.start ≡ n * stride b.room;
  end : l.run.start + l.run.room ≡ b.side * b.side * stride b.room;
  left : map emptied_piece l.pieces.items ≡ first_pieces b n;
}

abbrev pub decreases-loop-pieces : goal.decreases-loop-pieces
decreases-loop-pieces g l = length l.pieces.items
