use Rattle.std.proofs.Common.{◌≡◌, ℕ, ◌<◌, ◌≤◌, List, ℤ, length, Bool, Some}
use Rattle.std.specs.Prelude.{slice_get}
use Rattle.address_map.specs.Lawful.{Shape}
use Rattle.superstep_instructions.specs.Code.{SuperstepCode}
use Rattle.exchange_counts.specs.Tallies.{is_kept}
use Rattle.bsp_machine.specs.declared.counted.CountedWorker.{CountedWorker}
use Rattle.bsp_machine.specs.Workers.{AreKept}
use Rattle.bsp_machine.specs.Opening.{AreFresh, IsFresh}
use Rattle.workers.proofs.reserving.reserve_each.Given as goal

abbrev pub invariant-workers : goal.invariant-workers
invariant-workers l = record {
  long : length l.workers.items ≡ length l.fn.workers.items;
  later : (v : ℕ) → l.w ≤ v → slice_get l.workers.items v ≡ slice_get l.fn.workers.items v;
  given : (v : ℕ) (x : CountedWorker) → v < l.w → slice_get l.workers.items v ≡ Some x → x.reserve ≡ Some l.reserve;
  fresh : (code : SuperstepCode) (m : Shape) (input : List ℤ) → AreFresh code m input l.fn.workers.items → (v : ℕ) (x : CountedWorker) →
      v < l.w → slice_get l.workers.items v ≡ Some x → IsFresh code m input v x;
  kept : (kept : Bool) → AreKept kept l.fn.workers.items → (v : ℕ) (x : CountedWorker) → v < l.w → slice_get l.workers.items v ≡ Some x →
      is_kept x.counts ≡ kept;
}
