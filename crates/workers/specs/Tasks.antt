-- What a worker's thread is told to do, and what comes of it.
use Rattle.std.specs.Prelude.{◌≡◌, ℕ, List, [], map, length, zip, true, false}
use Rattle.address_map.specs.Lawful.{Shape}
use Rattle.superstep_instructions.specs.Code.{SuperstepCode}
use Rattle.superstep_machine.specs.Run.{State, is_over}
use Rattle.worker_exchange.specs.Shown.{way_is, is_stopped}
use Rattle.worker_exchange.specs.Equipped.{most_words, IsRunnable}
use Rattle.turnstile.specs.Seats.{TurnstileShape, RowState, AreSeatsOf, AreFresh}
use Rattle.worker_histories.specs.Shares.{Share}
use Rattle.exchange_counts.specs.Tallies.{is_kept}
use Rattle.bsp_machine.specs.declared.counted.CountedWorker.{CountedWorker}
use Rattle.bsp_machine.specs.Workers.{IsBetween}
use Rattle.bsp_machine.specs.Opening.{AreOpened}
use Rattle.workers.specs.Seating.{SameOwner}
use Rattle.workers.specs.Worked.{IsSeatFor, IsSomewhere, HasWorked}

-- what all workers of one run share, by a map of some type
pub record RunState (M : Type 0) : Type 0 where
  pub turnstile : TurnstileShape
  pub code : SuperstepCode
  pub map : M
  pub bound : ℕ

-- one worker's part of it
pub record TaskState (M : Type 0) : Type 0 where
  pub run : RunState M
  pub seat : RowState
  pub worker : CountedWorker

-- a task for each worker, at the seat of its place
abbrev pub tasks_for : {M : Type 0} → RunState M → List RowState → List CountedWorker → List (TaskState M)
tasks_for run seats workers =
    map (λ (p : RowState × CountedWorker). record { run = run; seat = p.0; worker = p.1 }) (zip seats workers)

module _ {M : Type 0} (shape : M → Shape) where
  -- a worker that can begin, at a seat where nothing has happened yet
  pub record IsReady (x : TaskState M) : Type 0 where
    pub own : x.seat.table ≡ x.run.turnstile.table
    pub runnable : IsRunnable x.run.code (shape x.run.map)
    pub seat : IsSeatFor x.run.code (shape x.run.map) x.seat
    pub fresh : (x.seat.sent ≡ []) × (x.seat.received ≡ [])
    pub somewhere : IsSomewhere x.run.code (shape x.run.map) x.run.bound x.seat.worker x.worker
    pub runs : is_stopped x.worker.local.way ≡ false

  -- its seat and the worker, when its part of the run is done
  pub record HasPlayed (x : TaskState M) (r : RowState) (y : CountedWorker) : Type 0 where
    pub owner : SameOwner x.seat r
    pub over : is_over (way_is y.local.way) ≡ true
    pub reserve : y.reserve ≡ x.worker.reserve
    pub kept : is_kept y.counts ≡ is_kept x.worker.counts
    pub worked : (states : ℕ → State) (told : ℕ → List Share) →
        IsBetween x.run.code (shape x.run.map) x.run.bound states told x.seat.worker x.worker →
        HasWorked x.run.code (shape x.run.map) x.run.bound states told x.seat.worker r y

  -- all workers of a run, and new seats for all of them
  pub record CanBegin (run : RunState M) (seats : List RowState) (workers : List CountedWorker) : Type 0 where
    pub runnable : IsRunnable run.code (shape run.map)
    pub parts : run.turnstile.workers ≡ (shape run.map).parts
    pub room : run.turnstile.room ≡ most_words run.code (shape run.map)
    pub all : AreSeatsOf run.turnstile seats
    pub fresh : AreFresh run.turnstile seats
    pub many : length workers ≡ (shape run.map).parts
    pub opened : AreOpened run.code (shape run.map) workers
