use Rattle.std.proofs.Common.{ℕ, ◌≡◌, ◌<◌, ◌+◌, ◌^◌, ◌∷◌, ◌++◌, [], List, length, length-append, ◌∙◌, ap, sym, arith}
use Rattle.turnstile.specs.Seats.{RowState}
use Rattle.thread_tests.proofs.Players.{only_one, one_seat}
use Rattle.thread_tests.proofs.crossing.one_worker_receives_its_own_row.Goals as goal

pub cross-column-requires-2-clause-own : goal.cross-column-requires-2-clause-own
cross-column-requires-2-clause-own g c =
    let made = c.in_ok-turnstile.ensures in let only =
    only_one c.take_last-seat.new.self.items c.take_last-seat.result c.in_ok-turnstile.seats.items c.take_last-seat.ensures.items
    (made.seats.count ∙ made.workers) in
    sym c.turn-seat.ensures.seat.table ∙ c.cross-column.ensures.seat.table ∙ ap (λ (r : RowState). r.table) c.fill-2.ensures.same
    ∙ ap (λ (r : RowState). r.table) c.fill.ensures.same ∙ made.seats.tables 0 c.take_last-seat.result only.1

pub cross-column-requires-2-clause-few : goal.cross-column-requires-2-clause-few
cross-column-requires-2-clause-few g c =
    let made = c.in_ok-turnstile.ensures in let only =
    only_one c.take_last-seat.new.self.items c.take_last-seat.result c.in_ok-turnstile.seats.items c.take_last-seat.ensures.items
    (made.seats.count ∙ made.workers) in
    let before = ap (λ (r : RowState). length r.sent) c.fill-2.ensures.same ∙ ap (λ (r : RowState). length r.sent) c.fill.ensures.same
    ∙ ap length (made.fresh 0 c.take_last-seat.result only.1).sent in
    let after = ap length c.turn-seat.ensures.sent ∙ ap length c.cross-column.ensures.sent
    ∙ length-append c.fill-2.new.self.sent (c.fill-2.new.self.row ∷ []) in
    let n : ℕ = length c.fill-2.new.self.sent in let n' : n ≡ 0 = before in let m : ℕ = length c.turn-seat.result.sent in
    let m' : m ≡ n + 1 = after in let few : m < 2 ^ 63 = omega arith in few

pub close-requires : goal.close-requires
close-requires g c =
    let made = c.in_ok-turnstile.ensures in let only =
    only_one c.take_last-seat.new.self.items c.take_last-seat.result c.in_ok-turnstile.seats.items c.take_last-seat.ensures.items
    (made.seats.count ∙ made.workers) in
    record {
      seats = one_seat c.in_ok-turnstile.turnstile c.push_reserved.new.self.items c.turn-seat-2.result (c.push_reserved.ensures.items
          ∙ ap (λ (l : List RowState). l ++ c.turn-seat-2.result ∷ []) only.0) made.workers
          (sym c.turn-seat-2.ensures.seat.table ∙ c.cross-column-2.ensures.seat.table ∙ sym c.turn-seat.ensures.seat.table
          ∙ c.cross-column.ensures.seat.table
          ∙ ap (λ (r : RowState). r.table) c.fill-2.ensures.same ∙ ap (λ (r : RowState). r.table) c.fill.ensures.same
          ∙ made.seats.tables 0 c.take_last-seat.result only.1)
          (sym c.turn-seat-2.ensures.seat.worker ∙ c.cross-column-2.ensures.seat.worker ∙ sym c.turn-seat.ensures.seat.worker
          ∙ c.cross-column.ensures.seat.worker
          ∙ ap (λ (r : RowState). r.worker) c.fill-2.ensures.same ∙ ap (λ (r : RowState). r.worker) c.fill.ensures.same
          ∙ made.seats.order 0 c.take_last-seat.result only.1);
    }
