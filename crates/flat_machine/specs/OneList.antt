-- One list of exchanges: that of the run instruction by instruction is that of the workers of every map.
use Rattle.std.specs.Prelude.{◌≡◌, ℕ, List, map, Some, ℤ}
use Rattle.write_rules.specs.Verdict.{Verdict}
use Rattle.address_map.specs.Lawful.{Shape}
use Rattle.superstep_instructions.specs.Code.{SuperstepCode}
use Rattle.superstep_machine.specs.Run.{Purpose}
use Rattle.superstep_machine.specs.Trace.{AreBspExchanges}
use Rattle.superstep_machine.specs.Trace as workers
use Rattle.bsp_verify.specs.WellFormed.{IsWellFormed}
use Rattle.flat_machine.specs.Flatness.{IsMapFor}
use Rattle.flat_machine.specs.ByExchanges.{opening}
use Rattle.flat_machine.specs.ByInstructions.{everywhere, outcome_within, IsFlatOutcome}
use Rattle.flat_machine.specs.Exchanges.{Exchange, exchanges_from, exchanges_of}

-- what exchanges are for, by the workers' list, which has their words, and by the list of instructions
abbrev pub made_for : List workers.Exchange → List Purpose
made_for = map (λ (e : workers.Exchange). e.purpose)

abbrev pub purposes_of : List Exchange → List Purpose
purposes_of = map (λ (e : Exchange). e.purpose)

-- For every code, well formed or not: what the exchanges of the workers of a map are for, up to a verdict, is what those of any number of
-- instructions that comes to it are for.
abbrev pub ExchangesAreOne : Type 0
ExchangesAreOne = (code : SuperstepCode) (map : Shape) → IsMapFor code map →
    (input : List ℤ) (bound : ℕ) (verdict : Verdict) (made : List workers.Exchange) →
    AreBspExchanges code map input bound verdict made → (n : ℕ) → outcome_within code bound everywhere n input ≡ Some verdict →
    made_for made ≡ purposes_of (exchanges_from code bound everywhere n (opening input))

-- And each map has one list: the exchanges up to a verdict, with their words, don't depend on how many instructions a stretch may have, or
-- on how many exchanges there may be, where these are enough.
abbrev pub ExchangesAreUnique : Type 0
ExchangesAreUnique = (code : SuperstepCode) (map : Shape) → IsMapFor code map →
    (input : List ℤ) (bound : ℕ) (verdict other : Verdict) (made more : List workers.Exchange) →
    AreBspExchanges code map input bound verdict made → AreBspExchanges code map input bound other more → made ≡ more

-- The workers of a map make exchanges up to the verdict, each with its words; and whatever they make is for what the code's list says.
pub record MakesListed (code : SuperstepCode) (map : Shape) (input : List ℤ) (bound : ℕ) (verdict : Verdict) : Type 0 where
  pub made : List workers.Exchange
  pub makes : AreBspExchanges code map input bound verdict made
  pub listed : (other : List workers.Exchange) → AreBspExchanges code map input bound verdict other →
      made_for other ≡ purposes_of (exchanges_of code bound input)

-- So do those of every map, where the code is well formed: no number of workers and no map is in the list.
abbrev pub WorkersMakeListed : Type 0
WorkersMakeListed = (code : SuperstepCode) → IsWellFormed code → (map : Shape) → IsMapFor code map →
    (input : List ℤ) (bound : ℕ) (verdict : Verdict) →
    IsFlatOutcome code input bound verdict → MakesListed code map input bound verdict
