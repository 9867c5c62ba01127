use Rattle.std.proofs.Common.{ℕ, sym, subst, ◌+◌, ◌%◌, ◌^◌}
use Rattle.atomic_table.specs.Table.{Allows, step}
use mathlib.Core.Option.{none}
use Rattle.turnstile.specs.Turns.{Holds, finishes}
use Rattle.turnstile.proofs.Moves.{finish_steps}
use Rattle.turnstile.proofs.steps.finish.Goals as goal

pub fetch_add-requires : goal.fetch_add-requires
fetch_add-requires c = let chair = c.args.chair.now in let board = c.args.board.now in (
  c.requires.seat.0,
  c.requires.seat.2,
  subst (λ (w : ℕ). Allows (Holds board.key board.key.side) board.table_id.slots chair.id chair.me w (λ n. (n + 1) % 2 ^ 64)
      (finishes (step board.table_id.slots w 1 0 none) chair.me)) (sym c.requires.seat.1)
      (finish_steps board.key board.key.side board.table_id.slots chair.id chair.me c.requires.ready.0 c.requires.ready.1 c.requires.ready.2
      c.requires.few),
)
