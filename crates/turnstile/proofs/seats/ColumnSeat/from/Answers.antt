use Rattle.std.proofs.Common.{ℕ, ◌<◌, ◌≤◌, ◌∙◌, ap, subst, length, arith}
use Rattle.turnstile.specs.Seats.{ColumnState}
use Rattle.turnstile.specs.Works.{done}
use Rattle.turnstile.proofs.Fillings.{column_has_room}
use Rattle.turnstile.proofs.seats.ColumnSeat.from.Goals as goal

pub returns-clause-few : goal.returns-clause-few
returns-clause-few c = let k = c.self.inside.work in let h = c.self.invariant in
    let lt : c.args.i < length k.column.items = (let a = c.requires.worker in let b = ap (λ (r : ColumnState). r.workers) c.self.view_is in
    let d = h.column in omega arith) in
    let room = column_has_room (done k).blocks _ _ _ _ k.column.items c.args.i c.index.result.now h.column_placed lt c.index.ensures
    ∙ ap (λ (r : ColumnState). r.room) c.self.view_is in
    subst (λ (n : ℕ). length c.words.result.now ≤ n) room c.words.ensures.few
