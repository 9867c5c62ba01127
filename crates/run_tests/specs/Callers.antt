-- What a caller that runs workers itself knows of each.
use Rattle.std.specs.Prelude.{◌≡◌, ℕ, List, [], false, ℤ}
use Rattle.address_map.specs.Lawful.{Shape}
use Rattle.superstep_code.specs.Code.{SuperstepCode}
use Rattle.superstep_machine.specs.Run.{opening, setting}
use Rattle.worker_exchange.specs.Shown.{is_stopped}
use Rattle.turnstile.specs.Seats.{TurnstileShape, RowState, IsFresh}
use Rattle.bsp_machine.specs.declared.counted.CountedWorker.{CountedWorker}
use Rattle.bsp_machine.specs.Workers.{IsBetween}
use Rattle.workers.specs.Gathered.{HasEnded}

-- worker w before the first instruction
pub record Opens (code : SuperstepCode) (m : Shape) (input : List ℤ) (w : ℕ) (x : CountedWorker) : Type 0 where
  pub between : (bound : ℕ) → IsBetween code m bound (λ n. opening (setting code m bound n) input w) (λ n. []) w x
  pub runs : is_stopped x.local.way ≡ false

-- the seat of worker w, at which nothing has happened
pub record IsNewSeat (t : TurnstileShape) (w : ℕ) (r : RowState) : Type 0 where
  pub own : r.table ≡ t.table
  pub order : r.worker ≡ w
  pub fresh : IsFresh t r

-- the seat of worker w, behind its run
pub record HasPlayed (t : TurnstileShape) (code : SuperstepCode) (m : Shape) (bound : ℕ) (input : List ℤ) (w : ℕ) (r : RowState)
    (x : CountedWorker) : Type 0 where
  pub own : r.table ≡ t.table
  pub order : r.worker ≡ w
  pub ended : HasEnded code m bound input w r x
