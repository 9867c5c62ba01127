use Rattle.turnstile.proofs.Moves.{depart_steps}
use Rattle.turnstile.proofs.steps.depart.Goals as goal

pub load-requires : goal.load-requires
load-requires c = let chair = c.args.chair.now in let board = c.args.board.now in (
  c.requires.seat.0,
  c.requires.seat.1,
  depart_steps board.key board.key.side board.table_id.slots chair.id chair.me c.requires.ready.0
      c.requires.ready.1 0 c.requires.ready.2,
)
