use Rattle.std.proofs.Common.{◌≡◌, length, ℕ, Option, Bool}
use Rattle.superstep_machine.specs.Sending.{several}
use Rattle.superstep_machine.specs.WordReading.{askers_of_column}
use Rattle.combining.specs.Gathering.{Notes}
use Rattle.combining.specs.Merged.{shared}
use Rattle.combining.proofs.readers.note_column.Given as goal

abbrev pub invariant-loop-ask : goal.invariant-loop-ask
invariant-loop-ask g l =
    let m = g.M.AddressMap.shape l.map in
    record {
      long : length l.askers ≡ length l.fn.askers;
      notes : (start rest : ℕ → Option Bool) →
          Notes m l.part shared start l.fn.askers l.fn.before (λ c. several (askers_of_column m l.part l.k c l.words) (rest c))
          → Notes m l.part shared start l.askers l.noted (λ c. several (askers_of_column m l.part l.k c l.rest) (rest c));
    }

abbrev pub decreases-loop-ask : goal.decreases-loop-ask
decreases-loop-ask g l = length l.rest
