-- When a run is refused, and how a worker begins.
use Rattle.std.specs.Prelude.{◌≡◌, ℕ, ◌<◌, ◌≤◌, List, length, ℤ}
use Rattle.pram_model.specs.Layout.{total_size}
use Rattle.address_map.specs.Lawful.{Shape}
use Rattle.address_map.specs.Outcome.{IsWorkers}
use Rattle.superstep_instructions.specs.Code.{SuperstepCode}
use Rattle.worker_exchange.specs.declared.refusal.RunRefusal.{RunRefusal}
use Rattle.worker_exchange.specs.declared.refusal.RunRefusal.TheVariants.{BadWorkers, BadMap, InputTooLong, OutOfMemory, OutOfReserve}

-- a module for each worker, and a place for each cell
pub record IsMapWith (code : SuperstepCode) (m : Shape) (workers : ℕ) : Type 0 where
  pub modules : m.parts ≡ workers
  pub places : total_size code.layout ≤ m.count

-- nothing speaks against the run
pub record IsAccepted (code : SuperstepCode) (m : Shape) (workers : ℕ) (input : List ℤ) : Type 0 where
  pub few : IsWorkers workers
  pub map : IsMapWith code m workers
  pub short : length input ≤ total_size code.layout

-- the first that speaks against it; where memory was refused nothing does; and a run that was given no reserve comes past none
abbrev pub IsRefusal : SuperstepCode → Shape → ℕ → List ℤ → RunRefusal → Type 0
IsRefusal code m workers input BadWorkers = ¬ (IsWorkers workers)
IsRefusal code m workers input BadMap = IsWorkers workers × ¬ (IsMapWith code m workers)
IsRefusal code m workers input InputTooLong = IsWorkers workers × IsMapWith code m workers × (total_size code.layout < length input)
IsRefusal code m workers input OutOfMemory = IsAccepted code m workers input
IsRefusal code m workers input OutOfReserve = ⊥
