use Rattle.std.proofs.Common.{◌≡◌, List, ℤ, length, Bool, Option}
use Rattle.worker_exchange.specs.Equipped.{most_words}
use Rattle.bsp_machine.specs.Workers.{AreKept, AreSheets}
use Rattle.run_options.specs.declared.reserve.Reserve.{Reserve}
use Rattle.bsp_machine.specs.Reserves.{AreGiven}
use Rattle.bsp_machine.specs.Ended.{AreRunning, left_first}
use Rattle.bsp_machine.proofs.phases.run_phases.Given as goal

abbrev pub decreases-phases : goal.decreases-phases
decreases-phases g l = left_first l.code l.bound l.workers

abbrev pub invariant-phases : goal.invariant-phases
invariant-phases g l = record {
  long : length l.workers ≡ (g.M.AddressMap.shape l.map).parts;
  rows : AreSheets (g.M.AddressMap.shape l.map).parts (most_words l.code (g.M.AddressMap.shape l.map)) l.rows;
  running : (input : List ℤ) → AreRunning l.code (g.M.AddressMap.shape l.map) l.bound input l.fn.workers →
      AreRunning l.code (g.M.AddressMap.shape l.map) l.bound input l.workers;
  given : (reserve : Option Reserve) → AreGiven reserve l.fn.workers → AreGiven reserve l.workers;
  kept : (kept : Bool) → AreKept kept l.fn.workers → AreKept kept l.workers;
}
