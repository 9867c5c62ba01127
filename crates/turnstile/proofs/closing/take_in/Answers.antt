use Rattle.std.proofs.Common.{ℕ, suc, ◌+◌, ◌≡◌, ◌∙◌, ap, length, arith}
use Rattle.turnstile.specs.declared.views.View.{View}
use Rattle.turnstile.proofs.Comings.{joins}
use Rattle.turnstile.proofs.closing.take_in.Goals as goal

pub join_seat-requires : goal.join_seat-requires
join_seat-requires c =
    let v = c.args.root.now.me.0 in let w = c.depart.new.chair.me.0 in let root = c.requires.root in let v_is = ap (λ z. z.0) root.1 in
    let w_is = ap (λ z. z.0) c.depart.ensures.departed in
    let laid = ap (λ z. z.0.mine.at) c.lay_all.ensures.laid.2 in
    let at : w.mine.at ≡ c.args.work.worker = ap (λ (z : View). z.mine.at) w_is ∙ laid ∙ c.requires.rested.at in
    let made : v.mine.at ≡ c.args.work.workers = ap (λ (z : View). z.mine.at) v_is in
    let team : length v.team ≡ length root.0 = ap (λ (z : View). length z.team) v_is in
    let a : ℕ = w.mine.at in let b : ℕ = v.mine.at in let n : ℕ = length v.team in let m : ℕ = length root.0 in
    let next : a + suc n ≡ b = (let q = root.2 in omega arith) in (
      c.requires.own.0,
      c.depart.ensures.seat.0 ∙ c.lay_all.ensures.same.0.0 ∙ c.requires.own.1,
      ap (λ z. z.1) c.depart.ensures.departed,
      (let q = c.requires.rested.words in let r = c.requires.rested.below in let t = ap (λ z. z.words) c.requires.own.1 in omega arith),
      joins c.args.board.now.key c.args.board.now.key.side c.args.root.now.id v c.depart.new.chair.id w (ap (λ (z : View). z.kind) v_is)
          (ap (λ (z : View). z.kind) w_is) next,
    )
