-- What a worker without a reserve may ask for memory for on the way.
use Rattle.std.specs.Prelude.{ℕ, ◌<◌, ◌≤◌, ◌⊎◌, length, vec_capacity}
use Rattle.address_map.specs.Lawful.{Shape}
use Rattle.superstep_instructions.specs.Code.{SuperstepCode}
use Rattle.superstep_machine.specs.Run.{State, ready, setting}
use Rattle.exchange_counts.specs.Tallies.{made_of, room_of}
use Rattle.bsp_machine.specs.declared.counted.CountedWorker.{CountedWorker}

-- It has no room for all items that worker w has printed where it comes to the next exchange from a state: in the output, or beside it.
abbrev pub IsShortOfItems : SuperstepCode → Shape → ℕ → State → ℕ → ℕ → CountedWorker → Type 0
IsShortOfItems code m bound s w n x =
    let items : ℕ = length (ready (setting code m bound n) w s).state.worker.uniform.output in
    (vec_capacity x.local.steps.uniform.output < items) ⊎ (vec_capacity x.items < items)

-- Or it has none to count that exchange.
abbrev pub IsFull : SuperstepCode → Shape → ℕ → State → ℕ → ℕ → CountedWorker → Type 0
IsFull code m bound s w n x = (room_of x.counts ≤ made_of x.counts) ⊎ IsShortOfItems code m bound s w n x
