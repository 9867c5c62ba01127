use Rattle.std.proofs.Common.{subst}
use Rattle.atomic_table.specs.Table.{Me}
use Rattle.std.specs.Prelude.{Option}
use Rattle.exchange_arena.specs.Piece.{PieceState}
use Rattle.turnstile.specs.declared.views.View.{View}
use Rattle.turnstile.specs.Turns.{Got}
use Rattle.turnstile.proofs.steps.look_until.Goals as goal

pub returns-then-round-count-clause-found : goal.returns-then-round-count-clause-found
returns-then-round-count-clause-found g c =
    subst (λ (m : Me (Option PieceState) View). Got m c.args.i c.look-count.new.chair.me) c.loop.invariant.2
    (c.look-count.ensures.found c.if-round-count.true)
