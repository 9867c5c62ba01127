use Rattle.std.proofs.Common.{◌+◌, ◌*◌}
use Rattle.exchange_arena.proofs.PieceLists.{length-first_pieces, slice_get-pieces_of, row_within, covering_stand_in_order, in_order_cover}
use Rattle.exchange_arena.proofs.piece_laws.pieces_stand_in_order.Goals as goal

pub returns-clause-count : goal.returns-clause-count
returns-clause-count c b = length-first_pieces b (b.side * b.side)

pub returns-clause-order : goal.returns-clause-order
returns-clause-order c = slice_get-pieces_of

pub returns-clause-rows : goal.returns-clause-rows
returns-clause-rows c b i j row column = slice_get-pieces_of b (i * b.side + j) (row_within i j b.side row column)

pub returns-clause-covered : goal.returns-clause-covered
returns-clause-covered c b pieces = (covering_stand_in_order b pieces, in_order_cover b pieces)
