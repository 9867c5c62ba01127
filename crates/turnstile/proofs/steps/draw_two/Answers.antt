use Rattle.std.proofs.Common.{◌∙◌, ap, Some, None}
use Rattle.turnstile.proofs.Hands.{headed, once}
use Rattle.turnstile.proofs.steps.draw_two.Goals as goal

pub exchange-requires-2 : goal.exchange-requires-2
exchange-requires-2 c = let m = c.args.chair.now.me.1 in let e = c.exchange.ensures in let t = c.turn.ensures in let h = c.requires.1 in (
  t.0 ∙ e.0 ∙ c.requires.0,
  (
    Some h.1,
    headed _ _ _ (once m _ _ c.args.first c.args.second (Some h.0) (Some h.1) None h.2 (ap (λ z. z.1) e.3) (ap (λ z. z.1) t.2)),
  ),
)
