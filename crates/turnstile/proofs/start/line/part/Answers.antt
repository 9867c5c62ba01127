use Rattle.std.proofs.Common.{ℕ, ◌∙◌, ap, arith}
use Rattle.turnstile.proofs.Sayings.{splits}
use Rattle.turnstile.proofs.start.line.part.Goals as goal

pub split_seat-requires : goal.split_seat-requires
split_seat-requires g c = let i = c.loop-at.invariant in let v = c.loop-at.chair.me.0 in let e = ap (λ z. z.0) i.root in (
  i.table ∙ c.requires.own.0,
  c.requires.own.2,
  splits c.args.board.now.key c.loop-at.chair.id v (ap (λ z. z.role) e) (ap (λ z. z.taken) e)
      (let a = ap (λ z. z.at) e in let b = c.requires.own.1 in let d = c.loop-at-test.true in let n : ℕ = v.at in let k : ℕ =
      c.args.board.now.key in omega arith),
)
