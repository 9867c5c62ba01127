-- Runs that come past a reserve.
use Rattle.std.specs.Prelude.{◌≡◌, ℕ, suc, ◌<◌, ◌⊎◌, List, Option, None, Some, true, ℤ}
use Rattle.address_map.specs.Lawful.{Shape}
use Rattle.superstep_instructions.specs.Code.{SuperstepCode}
use Rattle.superstep_machine.specs.Run.{bsp, opening, setting}
use Rattle.bsp_verify.specs.Runs.{worker_after}
use Rattle.worker_exchange.specs.declared.refusal.RunRefusal.{RunRefusal}
use Rattle.worker_exchange.specs.declared.refusal.RunRefusal.TheVariants.{OutOfReserve}
use Rattle.worker_exchange.specs.Opened.{IsAccepted, IsRefusal}
use Rattle.worker_exchange.specs.Reached.{most_instructions}
use Rattle.worker_histories.specs.Histories.{GoesOn}
use Rattle.run_options.specs.declared.reserve.Reserve.{Reserve}
use Rattle.bsp_machine.specs.Reserves.{is_past}
use Rattle.workers.specs.Worked.{items_at}

-- The machine's run from an input comes to an exchange at which a worker has printed more items than the reserve has, those that a fault
-- drops counted, or before which as many exchanges were made as the reserve has. It does so within any number of instructions that is
-- enough.
pub record ComesPast (code : SuperstepCode) (m : Shape) (bound : ℕ) (input : List ℤ) (reserve : Reserve) : Type 0 where
  pub worker : ℕ
  pub exchange : ℕ
  pub there : worker < m.parts
  pub comes : (n : ℕ) → most_instructions code bound < n →
      GoesOn (bsp (setting code m bound n)) m.parts (suc exchange) (opening (setting code m bound n) input)
  pub past : (n : ℕ) → most_instructions code bound < n →
      is_past reserve (items_at (setting code m bound n) worker (worker_after (setting code m bound n) input exchange worker))
      exchange ≡ true

-- The first that speaks against a run with a reserve: what does so without one, or else that it comes past it.
abbrev pub IsReservedRefusal : SuperstepCode → Shape → ℕ → List ℤ → ℕ → Reserve → RunRefusal → Type 0
IsReservedRefusal code m workers input bound reserve refusal =
    IsRefusal code m workers input refusal
    ⊎ ((refusal ≡ OutOfReserve) × IsAccepted code m workers input × ComesPast code m bound input reserve)

-- with a reserve, or without
abbrev pub IsRefusalWith : SuperstepCode → Shape → ℕ → List ℤ → ℕ → Option Reserve → RunRefusal → Type 0
IsRefusalWith code m workers input bound None refusal = IsRefusal code m workers input refusal
IsRefusalWith code m workers input bound (Some reserve) refusal = IsReservedRefusal code m workers input bound reserve refusal

-- it comes past no reserve that it was given
abbrev pub StaysWithin : SuperstepCode → Shape → ℕ → List ℤ → Option Reserve → Type 0
StaysWithin code m bound input None = Unit {0}
StaysWithin code m bound input (Some reserve) = ¬ (ComesPast code m bound input reserve)
