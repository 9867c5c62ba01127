use Rattle.std.proofs.Common.{◌∙◌, ap}
use Rattle.turnstile.proofs.Sayings.{joins}
use Rattle.turnstile.proofs.start.taking.take_in.Goals as goal

pub join_seat-requires : goal.join_seat-requires
join_seat-requires g c = let b = c.give_back.ensures.back in (
  c.requires.own.0,
  c.give_back.ensures.own.0 ∙ ap (λ r. r.table) c.from.view_is ∙ c.requires.own.1,
  ap (λ z. z.1) b,
  c.requires.own.2,
  joins c.args.board.now.key c.args.chair.now.id c.args.chair.now.me.0 c.give_back.new.chair.id c.give_back.new.chair.me.0
      c.requires.starter (ap (λ z. z.0.role) b),
)
