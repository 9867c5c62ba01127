-- Workers that have played their parts of one run.
use Rattle.std.specs.Prelude.{◌≡◌, ℕ, List, [], length, Some, true, false, ℤ, slice_get}
use Rattle.address_map.specs.Lawful.{Shape}
use Rattle.superstep_instructions.specs.Code.{SuperstepCode}
use Rattle.superstep_machine.specs.Run.{opening, is_over, setting}
use Rattle.worker_exchange.specs.Shown.{way_is, is_stopped}
use Rattle.turnstile.specs.Seats.{RowState}
use Rattle.bsp_machine.specs.declared.counted.CountedWorker.{CountedWorker}
use Rattle.workers.specs.Worked.{HasWorked}

-- Worker w's run, from the opening, is over, and its seat has the history of it.
pub record HasEnded (code : SuperstepCode) (m : Shape) (bound : ℕ) (input : List ℤ) (w : ℕ) (r : RowState) (x : CountedWorker) :
    Type 0 where
  pub workers : r.workers ≡ m.parts
  pub worked : HasWorked code m bound (λ n. opening (setting code m bound n) input w) (λ n. []) w r x
  pub over : is_over (way_is x.local.way) ≡ true

-- All workers of one run, in their order.
pub record HaveEnded (code : SuperstepCode) (m : Shape) (bound : ℕ) (input : List ℤ) (seats : List RowState)
    (workers : List CountedWorker) : Type 0 where
  pub seats_are : length seats ≡ m.parts
  pub workers_are : length workers ≡ m.parts
  pub each : (w : ℕ) (r : RowState) (x : CountedWorker) → slice_get seats w ≡ Some r → slice_get workers w ≡ Some x →
      HasEnded code m bound input w r x

-- a run within some bound, from some input
pub record HaveEndedSome (code : SuperstepCode) (m : Shape) (seats : List RowState) (workers : List CountedWorker) : Type 0 where
  pub bound : ℕ
  pub input : List ℤ
  pub ended : HaveEnded code m bound input seats workers

-- no worker was stopped by a mark
abbrev pub NoneHasStopped : List CountedWorker → Type 0
NoneHasStopped workers = (w : ℕ) (x : CountedWorker) → slice_get workers w ≡ Some x → is_stopped x.local.way ≡ false
