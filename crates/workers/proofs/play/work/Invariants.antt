use Rattle.std.proofs.Common.{◌≡◌, ◌+◌, ◌≤◌, ℕ, List, length}
use Rattle.superstep_machine.specs.Run.{State}
use Rattle.worker_exchange.specs.Equipped.{left}
use Rattle.exchange_counts.specs.Tallies.{is_kept}
use Rattle.worker_histories.specs.Shares.{Share}
use Rattle.bsp_machine.specs.Workers.{IsBetween}
use Rattle.workers.specs.Seating.{SameOwner}
use Rattle.workers.specs.Worked.{HasWorked}
use Rattle.workers.proofs.play.work.Given as goal

abbrev pub invariant-exchanges : goal.invariant-exchanges
invariant-exchanges g l = record {
  owner : SameOwner l.fn.seat l.seat;
  reserve : l.worker.reserve ≡ l.fn.worker.reserve;
  kept : is_kept l.worker.counts ≡ is_kept l.fn.worker.counts;
  few : length l.seat.sent + left l.code l.bound l.worker.local ≤ left l.code l.bound l.fn.worker.local;
  worked : (states : ℕ → State) (told : ℕ → List Share) →
      IsBetween l.code (g.M.AddressMap.shape l.map) l.bound states told l.fn.seat.worker l.fn.worker →
      HasWorked l.code (g.M.AddressMap.shape l.map) l.bound states told l.fn.seat.worker l.seat l.worker;
}

abbrev pub decreases-exchanges : goal.decreases-exchanges
decreases-exchanges g l = left l.code l.bound l.worker.local
