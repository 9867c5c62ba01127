use Rattle.std.proofs.Common.{ap, refl, length-set, ◌∙◌, arith}
use Rattle.exchange_arena.specs.Piece.{emptied_piece}
use Rattle.turnstile.specs.Turns.{message}
use Rattle.turnstile.specs.Works.{done}
use Rattle.turnstile.proofs.Fillings.{row_set, still_rests, one_blank_more, all_blank}
use Rattle.turnstile.proofs.seats.empty_row.Goals as goal

pub loop-j-preserved : goal.loop-j-preserved
loop-j-preserved c = let k = c.loop-j.work in let now = c.loop-j.invariant in let h = now.rested in let same = now.same in record {
  rested = still_rests k _ h refl refl refl refl refl (length-set k.row.items c.loop-j.j _) refl
      (row_set (done k).blocks _ _ _ _ k.row.items c.loop-j.j _ c.index_mut.result.now h.row_placed
      (let a = c.loop-j-test.true in let b = c.len-j-end.ensures in let d = h.row in let e = c.requires.rested.row in let f =
      same.workers in omega arith) c.index_mut.ensures.value (ap emptied_piece c.clear.ensures.emptied));
  same = record { chair = same.chair; column = same.column; worker = same.worker; workers = same.workers; round = same.round };
  empty = one_blank_more k.row.items c.loop-j.j _ (ap message c.clear.ensures.emptied) now.empty;
}

pub returns-clause-row : goal.returns-clause-row
returns-clause-row c = let now = c.loop-j.invariant in let k = c.loop-j.work in
    all_blank c.args.work.now.workers k.row.items (now.rested.row ∙ now.same.workers) (λ j lj. now.empty j (let a = c.loop-j-test.false in
    let b = c.len-j-end.ensures in let e = c.requires.rested.row in omega arith))
