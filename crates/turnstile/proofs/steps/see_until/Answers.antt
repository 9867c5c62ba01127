use Rattle.std.proofs.Common.{◌≤◌, ◌∷◌, ◌++◌, [], ◌∙◌, ap, sym, subst, ℕ, deque_capacity}
use Rattle.turnstile.specs.declared.work.Work.{Work}
use Rattle.turnstile.proofs.Sights.{sees_more, offers}
use Rattle.turnstile.proofs.steps.see_until.Goals as goal

pub take_two-x-requires-clause-found : goal.take_two-x-requires-clause-found
take_two-x-requires-clause-found g c = let got = c.look_until.ensures.found in offers c.args.work.now c.args.i _ c.requires.seeing got

pub returns-clause-same : goal.returns-clause-same
returns-clause-same g c = let k = c.args.work.now in let got = c.look_until.ensures.found in let t = c.take_two-x.ensures in let p =
    c.push_back_reserved.ensures in let q = c.push_back_reserved-2.ensures in let s = t.same.0 in
    let w = c.take_two-x.new.work in let l : Work = record {
      chair = w.chair;
      row = c.push_back_reserved.new.self;
      column =
          c.push_back_reserved-2.new.self;
      worker = w.worker;
      workers = w.workers;
      round = w.round;
    } in
    let r = sees_more k l c.args.i _ _ _ c.requires.seeing c.requires.seat.2 got t.pieces t.slots (
      s.0 ∙ c.look_until.ensures.seat.0,
      s.1
          ∙ c.look_until.ensures.seat.1,
      s.2,
      s.3,
      s.4,
    ) (p.items ∙ ap (λ z. z.items ++ c.take_two-x.result.0 ∷ []) t.same.1) (q.items
    ∙ ap (λ z. z.items ++ c.take_two-x.result.1 ∷ []) t.same.2)
    (subst (λ (z : ℕ). k.workers ≤ z) (sym (p.capacity ∙ ap deque_capacity t.same.1)) c.requires.seeing.row_room)
    (subst (λ (z : ℕ). k.workers ≤ z) (sym (q.capacity ∙ ap deque_capacity t.same.2)) c.requires.seeing.column_room) in
    ((s.0 ∙ c.look_until.ensures.seat.0, s.1 ∙ c.look_until.ensures.seat.1, s.2, s.3, s.4), r.1, r.2, r.3)

pub returns-clause-seeing : goal.returns-clause-seeing
returns-clause-seeing g c = let k = c.args.work.now in let got = c.look_until.ensures.found in let t = c.take_two-x.ensures in let p =
    c.push_back_reserved.ensures in let q = c.push_back_reserved-2.ensures in let s = t.same.0 in
    let w = c.take_two-x.new.work in let l : Work = record {
      chair = w.chair;
      row = c.push_back_reserved.new.self;
      column =
          c.push_back_reserved-2.new.self;
      worker = w.worker;
      workers = w.workers;
      round = w.round;
    } in
    let r = sees_more k l c.args.i _ _ _ c.requires.seeing c.requires.seat.2 got t.pieces t.slots (
      s.0 ∙ c.look_until.ensures.seat.0,
      s.1
          ∙ c.look_until.ensures.seat.1,
      s.2,
      s.3,
      s.4,
    ) (p.items ∙ ap (λ z. z.items ++ c.take_two-x.result.0 ∷ []) t.same.1) (q.items
    ∙ ap (λ z. z.items ++ c.take_two-x.result.1 ∷ []) t.same.2)
    (subst (λ (z : ℕ). k.workers ≤ z) (sym (p.capacity ∙ ap deque_capacity t.same.1)) c.requires.seeing.row_room)
    (subst (λ (z : ℕ). k.workers ≤ z) (sym (q.capacity ∙ ap deque_capacity t.same.2)) c.requires.seeing.column_room) in
    r.0
