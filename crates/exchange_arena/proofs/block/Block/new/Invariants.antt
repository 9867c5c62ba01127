use Rattle.std.proofs.Common.{◌≡◌, ◌+◌, ◌*◌, suc, length, [], vec_capacity}
use Rattle.exchange_arena.specs.Piece.{stride}
use Rattle.exchange_arena.specs.Block.{first_pieces}
use Rattle.exchange_arena.proofs.block.Block.new.Given as goal

-- n pieces are cut off, and what is left lies behind them
abbrev pub invariant-loop : goal.invariant-loop
invariant-loop g l = let n = length l.pieces.items in record {
  counter : l.counter ≡ suc n;
  capacity : vec_capacity l.pieces ≡ l.count;
  base : l.rest.base ≡ l.deed.base;
  start : l.rest.start ≡ n * stride l.room;
  end : l.rest.start + l.rest.room ≡ l.count * stride l.room;
  unwritten : l.rest.items ≡ [];
  pieces : l.pieces.items ≡ first_pieces (record { block = l.deed.base; side = l.side; room = l.room }) n;
}
