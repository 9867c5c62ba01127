use Rattle.std.proofs.Common.{ℕ, ◌<◌, ◌≤◌, ◌∙◌, ap, refl, sym, subst, length, map, set, length-set, arith}
use lib.Seq.{map-set}
use Rattle.exchange_arena.specs.Piece.{PieceState}
use Rattle.turnstile.specs.declared.views.Message.{Message}
use Rattle.turnstile.specs.Seats.{RowState}
use Rattle.turnstile.specs.Turns.{message}
use Rattle.turnstile.specs.Works.{done}
use Rattle.turnstile.proofs.Fillings.{row_set, still_rests, row_has_room, on_true}
use Rattle.turnstile.proofs.seats.RowSeat.fill.Goals as goal

pub invariant_of-self : goal.invariant_of-self
invariant_of-self c = let k = c.self.inside.work in let h = c.self.invariant in
    still_rests k _ h refl refl refl refl refl (length-set k.row.items c.args.to _) refl
    (row_set (done k).blocks _ _ _ _ k.row.items c.args.to _ c.index_mut.result.now h.row_placed
    (let a = c.requires.worker in let b = ap (λ (r : RowState). r.workers) c.self.view_is in let d = h.row in
    omega arith) c.index_mut.ensures.value c.fill.ensures.same)

pub returns-clause-fits : goal.returns-clause-fits
returns-clause-fits c = let k = c.self.inside.work in let h = c.self.invariant in
    let lt : c.args.to < length k.row.items = (let a = c.requires.worker in let b = ap (λ (r : RowState). r.workers) c.self.view_is in
    let d = h.row in omega arith) in
    let room = row_has_room (done k).blocks _ _ _ _ k.row.items c.args.to c.index_mut.result.now h.row_placed lt c.index_mut.ensures.value
    ∙ ap (λ (r : RowState). r.room) c.self.view_is in (
      (λ t. subst (λ (n : ℕ). length c.args.words.now ≤ n) room (c.fill.ensures.fits.0 t)),
      (λ le. c.fill.ensures.fits.1 (subst (λ (n : ℕ). length c.args.words.now ≤ n) (sym room) le)),
    )

pub returns-clause-filled : goal.returns-clause-filled
returns-clause-filled c =
    let k = c.self.inside.work in let v = c.self.view_is in let m : Message = record { header = c.args.header; words = c.args.words.now } in
    let xs = k.row.items in
    on_true c.fill.result _ _ (λ e.
    let row = map-set message xs c.args.to c.fill.new.self ∙ ap (λ (x : PieceState). set (map message xs) c.args.to (message x)) e
    ∙ ap (λ (r : RowState). set r.row c.args.to m) v in
    (λ q. record {
      table = (v q).table;
      worker = (v q).worker;
      workers = (v q).workers;
      room = (v q).room;
      sent = (v q).sent;
      received =
          (v q).received;
      row = row q;
    })) c.fill.ensures.filled
