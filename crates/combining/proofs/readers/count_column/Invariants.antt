use Rattle.std.proofs.Common.{◌≡◌, length, ℕ, Option, Bool}
use Rattle.superstep_machine.specs.Sending.{several}
use Rattle.superstep_machine.specs.WordReading.{askers_of_column}
use Rattle.combining.specs.Gathering.{Gathers}
use Rattle.combining.proofs.readers.count_column.Given as goal

abbrev pub invariant-loop-ask : goal.invariant-loop-ask
invariant-loop-ask g l =
    let m = g.M.AddressMap.shape l.map in
    record {
      long : length l.askers ≡ length l.fn.askers;
      gathered : (whole rest : ℕ → Option Bool) →
          Gathers m l.part several whole l.fn.askers (λ c. several (askers_of_column m l.part l.k c l.words) (rest c))
          → Gathers m l.part several whole l.askers (λ c. several (askers_of_column m l.part l.k c l.rest) (rest c));
    }

abbrev pub decreases-loop-ask : goal.decreases-loop-ask
decreases-loop-ask g l = length l.rest
