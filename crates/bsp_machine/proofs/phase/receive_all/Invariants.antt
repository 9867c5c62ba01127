use Rattle.std.proofs.Common.{◌≡◌, ℕ, suc, ◌<◌, ◌≤◌, List, ℤ, length, Option, Some, Bool, false}
use Rattle.std.specs.Prelude.{slice_get}
use Rattle.superstep_machine.specs.Run.{is_over}
use Rattle.worker_exchange.specs.Shown.{is_stopped, way_is}
use Rattle.worker_exchange.specs.Equipped.{left, left_at}
use Rattle.exchange_counts.specs.Tallies.{is_kept}
use Rattle.bsp_machine.specs.declared.counted.CountedWorker.{CountedWorker}
use Rattle.run_options.specs.declared.reserve.Reserve.{Reserve}
use Rattle.bsp_machine.specs.Reserves.{HaveReserve, IsGiven}
use Rattle.bsp_machine.specs.Workers.{AreKept, AreAt, IsBehind}
use Rattle.bsp_machine.proofs.MarkLemmas.{any_stopped}
use Rattle.bsp_machine.proofs.phase.receive_all.Given as goal

abbrev pub invariant-workers : goal.invariant-workers
invariant-workers g l = record {
  long : length l.workers ≡ (g.M.AddressMap.shape l.map).parts;
  later : (v : ℕ) → l.w ≤ v → slice_get l.workers v ≡ slice_get l.fn.workers v;
  behind : (input : List ℤ) (k : ℕ) → AreAt l.code (g.M.AddressMap.shape l.map) l.bound input k l.fn.workers l.rows →
      (v : ℕ) (x : CountedWorker) → v < l.w → slice_get l.workers v ≡ Some x →
      IsBehind l.code (g.M.AddressMap.shape l.map) l.bound input (suc k) v x;
  stopped : (input : List ℤ) (k : ℕ) → AreAt l.code (g.M.AddressMap.shape l.map) l.bound input k l.fn.workers l.rows →
      (v : ℕ) (x : CountedWorker) → v < l.w → slice_get l.workers v ≡ Some x → is_stopped x.local.way ≡ any_stopped l.fn.workers;
  left : (v : ℕ) (x y : CountedWorker) → v < l.w → slice_get l.fn.workers v ≡ Some x → slice_get l.workers v ≡ Some y →
      is_over (way_is y.local.way) ≡ false →
      (is_stopped x.local.way ≡ false) × (left l.code l.bound y.local < left_at l.code l.bound x.local);
  given : (reserve : Option Reserve) (input : List ℤ) (k : ℕ) →
      AreAt l.code (g.M.AddressMap.shape l.map) l.bound input k l.fn.workers l.rows → HaveReserve reserve l.fn.workers →
      (v : ℕ) (x : CountedWorker) → v < l.w → slice_get l.workers v ≡ Some x → IsGiven reserve x;
  kept : (kept : Bool) → AreKept kept l.fn.workers → (v : ℕ) (x : CountedWorker) → v < l.w → slice_get l.workers v ≡ Some x →
      is_kept x.counts ≡ kept;
}
