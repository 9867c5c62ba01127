-- Coming past a reserve in the words of what a run comes to: its outcome and its list of exchanges.
use Rattle.std.specs.Prelude.{◌≡◌, ℕ, ◌<◌, ◌≤◌, ◌⊎◌, List, length, ℤ}
use Rattle.address_map.specs.Lawful.{Shape}
use Rattle.superstep_instructions.specs.Code.{SuperstepCode}
use Rattle.superstep_machine.specs.Setting.{Setting}
use Rattle.superstep_machine.specs.Run.{setting}
use Rattle.superstep_machine.specs.Trace.{Exchange, AreBspExchanges}
use Rattle.write_rules.specs.Verdict.{Verdict, Ended, Faulted, GoesOn}
use Rattle.bsp_verify.specs.Runs.{worker_after}
use Rattle.worker_exchange.specs.Reached.{most_instructions}
use Rattle.worker_exchange.specs.Equipped.{IsRunnable}
use Rattle.run_options.specs.declared.reserve.Reserve.{Reserve}
use Rattle.workers.specs.Past.{ComesPast}

-- more items than a reserve has, or more exchanges
abbrev pub IsMoreThan : Reserve → ℕ → ℕ → Type 0
IsMoreThan reserve items exchanges = (reserve.items < items) ⊎ (reserve.exchanges < exchanges)

-- the items of an outcome
abbrev pub output_of : Verdict → List ℤ
output_of (Ended output memory) = output
output_of (Faulted fault output) = output
output_of (GoesOn output) = output

abbrev pub IsNoFault : Verdict → Type 0
IsNoFault (Faulted fault output) = ⊥
IsNoFault verdict = Unit {0}

-- how many items have been printed behind so many exchanges
abbrev pub printed_by : Setting → List ℤ → ℕ → ℕ
printed_by t input exchanges = length (worker_after t input exchanges 0).worker.uniform.output

-- So many were printed in a run with this outcome: its items, and at a fault maybe more, which the fault drops.
pub record ArePrinted (verdict : Verdict) (items : ℕ) : Type 0 where
  pub all : IsNoFault verdict → items ≡ length (output_of verdict)
  pub few : length (output_of verdict) ≤ items

-- A run with these exchanges and this outcome comes past a reserve exactly where more items were printed in it, or more exchanges made,
-- than the reserve has: by any number of instructions that is enough.
pub record IsPastBySize (code : SuperstepCode) (m : Shape) (bound : ℕ) (input : List ℤ) (reserve : Reserve) (verdict : Verdict)
    (exchanges : List Exchange) : Type 0 where
  pub printed : (n : ℕ) → most_instructions code bound < n →
      ArePrinted verdict (printed_by (setting code m bound n) input (length exchanges))
  pub past : ComesPast code m bound input reserve → (n : ℕ) → most_instructions code bound < n →
      IsMoreThan reserve (printed_by (setting code m bound n) input (length exchanges)) (length exchanges)
  pub more : ((n : ℕ) → most_instructions code bound < n →
      IsMoreThan reserve (printed_by (setting code m bound n) input (length exchanges)) (length exchanges)) →
      ComesPast code m bound input reserve

-- For verified code and a map with a place for each cell.
abbrev pub PastIsMore : Type 0
PastIsMore = (code : SuperstepCode) (m : Shape) → IsRunnable code m → (bound : ℕ) (input : List ℤ) (reserve : Reserve) (verdict : Verdict)
    (exchanges : List Exchange) → AreBspExchanges code m input bound verdict exchanges →
    IsPastBySize code m bound input reserve verdict exchanges

-- A run whose outcome has more items than the reserve, or whose list of exchanges is longer, comes past it; and where it doesn't fault, no
-- other does.
abbrev pub PastIsMoreOutput : Type 0
PastIsMoreOutput = (code : SuperstepCode) (m : Shape) → IsRunnable code m → (bound : ℕ) (input : List ℤ) (reserve : Reserve)
    (verdict : Verdict) (exchanges : List Exchange) → AreBspExchanges code m input bound verdict exchanges →
    (IsMoreThan reserve (length (output_of verdict)) (length exchanges) → ComesPast code m bound input reserve)
    × (IsNoFault verdict → ComesPast code m bound input reserve → IsMoreThan reserve (length (output_of verdict)) (length exchanges))
