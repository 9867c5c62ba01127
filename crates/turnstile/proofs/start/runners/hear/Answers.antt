use Rattle.turnstile.proofs.Hearings.{hears_steps}
use Rattle.turnstile.proofs.start.runners.hear.Goals as goal

pub load-requires : goal.load-requires
load-requires g c = (
  c.requires.seat.0,
  c.requires.seat.1,
  hears_steps c.args.board.now.key c.args.board.now.table_id.slots c.args.chair.now.id c.args.at c.args.chair.now.me c.requires.seat.2,
)
