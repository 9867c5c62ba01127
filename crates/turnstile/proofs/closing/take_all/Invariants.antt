use Rattle.std.proofs.Common.{◌≡◌, ◌++◌, [], map, List, vec_len}
use Rattle.turnstile.specs.declared.work.Work.{Work}
use Rattle.turnstile.specs.Seats.{RowState}
use Rattle.turnstile.specs.Turns.{keeper}
use Rattle.turnstile.specs.Closings.{AreWorksOf, gone}
use Rattle.turnstile.proofs.closing.take_all.Given as goal

abbrev pub invariant-loop-seat : goal.invariant-loop-seat
invariant-loop-seat l = record {
  table : l.root.table_id ≡ l.initial.root.table_id;
  id : l.root.id ≡ l.initial.root.id;
  taken : (works : List Work) × (seats : List RowState) × AreWorksOf seats works × (l.seats.items ++ seats ≡ l.initial.seats.items)
      × (l.root.me ≡ (keeper l.board.key l.workers l.workers (map gone works), []));
}

abbrev pub decreases-loop-seat : goal.decreases-loop-seat
decreases-loop-seat l = vec_len l.seats
