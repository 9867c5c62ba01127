use Rattle.std.proofs.Common.{◌∙◌, ◌++◌, ap, sym, option_to_list}
use Rattle.turnstile.proofs.Rows.{laid_more}
use Rattle.turnstile.proofs.start.starter.lay.Goals as goal

pub loop-k-preserved : goal.loop-k-preserved
loop-k-preserved g c = let i = c.loop-k.invariant in let ys = c.pop_front.new.self.items in let e = c.exchange.ensures in let t =
    c.turn.ensures in
    let r = laid_more c.loop-k.k c.args.runners c.args.items.items ys c.unwrap-item.result c.loop-k.chair.me.1 c.exchange.new.seat.me.1
    c.turn.new.self.me.1 c.loop-k-test.true c.requires.bare.1 i.4
    (sym i.3 ∙ c.pop_front.ensures.items ∙ ap (λ o. option_to_list o ++ ys) c.unwrap-item.ensures) (ap (λ z. z.1) e.3)
    (ap (λ z. z.1) t.2) in
    (t.0 ∙ e.0 ∙ i.0, t.1 ∙ e.1 ∙ i.1, ap (λ z. z.0) t.2 ∙ ap (λ z. z.0) e.3 ∙ i.2, r.1, r.0)
