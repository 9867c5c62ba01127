use Rattle.std.proofs.Common.{[], ap, Some, ◌∙◌}
use Rattle.turnstile.proofs.Hands.{headed}
use Rattle.turnstile.proofs.start.runners.hear_until.Goals as goal

pub exchange-requires : goal.exchange-requires
exchange-requires g c = let h = c.hear-said.ensures.go c.if-said-eq1.true in (
  c.hear-said.ensures.seat.0 ∙ c.loop.invariant.table
      ∙ c.requires.seat.0,
  (Some h.0, headed _ [] (c.args.at, Some h.0) (ap (λ z. z.1) h.1)),
)
