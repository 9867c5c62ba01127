use Rattle.std.proofs.Common.{◌≡◌, ℕ, ◌<◌, ◌≤◌, List, ℤ, length, Option, Some, Bool, false}
use Rattle.std.specs.Prelude.{slice_get}
use Rattle.worker_exchange.specs.Shown.{is_stopped}
use Rattle.worker_exchange.specs.Equipped.{most_words, left, left_at}
use Rattle.exchange_counts.specs.Tallies.{is_kept}
use Rattle.bsp_machine.specs.declared.counted.CountedWorker.{CountedWorker}
use Rattle.bsp_machine.specs.declared.sheet.Sheet.{Sheet}
use Rattle.bsp_machine.specs.Sheets.{messages_in}
use Rattle.run_options.specs.declared.reserve.Reserve.{Reserve}
use Rattle.bsp_machine.specs.Reserves.{HaveReserve}
use Rattle.bsp_machine.specs.Workers.{AreKept, AreSheets, AreBehind, IsAt, IsReady}
use Rattle.bsp_machine.proofs.phase.send_all.Given as goal

abbrev pub invariant-workers : goal.invariant-workers
invariant-workers g l = record {
  long : length l.workers ≡ (g.M.AddressMap.shape l.map).parts;
  rows : AreSheets (g.M.AddressMap.shape l.map).parts (most_words l.code (g.M.AddressMap.shape l.map)) l.rows;
  later : (v : ℕ) → l.w ≤ v → slice_get l.workers v ≡ slice_get l.fn.workers v;
  ready : (v : ℕ) (x : CountedWorker) → v < l.w → slice_get l.workers v ≡ Some x →
      IsReady l.code (g.M.AddressMap.shape l.map) l.bound x;
  at : (input : List ℤ) (k : ℕ) → AreBehind l.code (g.M.AddressMap.shape l.map) l.bound input k l.fn.workers →
      (v : ℕ) (x : CountedWorker) (row : Sheet) → v < l.w → slice_get l.workers v ≡ Some x → slice_get l.rows v ≡ Some row →
      IsAt l.code (g.M.AddressMap.shape l.map) l.bound input k v x (messages_in row);
  fewer : (v : ℕ) (x y : CountedWorker) → v < l.w → slice_get l.fn.workers v ≡ Some x → slice_get l.workers v ≡ Some y →
      is_stopped y.local.way ≡ false → left_at l.code l.bound y.local ≤ left l.code l.bound x.local;
  reserve : (reserve : Option Reserve) → HaveReserve reserve l.fn.workers → (v : ℕ) (x : CountedWorker) → v < l.w →
      slice_get l.workers v ≡ Some x → x.reserve ≡ reserve;
  kept : (kept : Bool) → AreKept kept l.fn.workers → (v : ℕ) (x : CountedWorker) → v < l.w → slice_get l.workers v ≡ Some x →
      is_kept x.counts ≡ kept;
}
