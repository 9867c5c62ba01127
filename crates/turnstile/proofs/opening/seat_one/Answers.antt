use Rattle.std.proofs.Common.{ℕ, ap, arith}
use Rattle.turnstile.specs.declared.views.View.{View}
use Rattle.turnstile.proofs.Comings.{splits}
use Rattle.turnstile.proofs.opening.seat_one.Goals as goal

pub split_seat-chair-requires : goal.split_seat-chair-requires
split_seat-chair-requires c =
    let v = c.args.root.now.me.0 in let e = ap (λ z. z.0) c.requires.root in let b = c.args.board.now in
    let at = ap (λ (z : View). z.mine.at) e in let own = c.requires.own in (
      own.0,
      omega arith,
      splits b.key b.key.side c.args.root.now.id v (ap (λ (z : View). z.kind) e) (ap (λ (z : View). z.team) e) (let n : ℕ = v.mine.at in
          let k : ℕ = b.key.side in omega arith),
    )
