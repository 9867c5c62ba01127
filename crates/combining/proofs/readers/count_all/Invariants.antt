use Rattle.std.proofs.Common.{◌≡◌, length, ℕ, Option, Bool, drop, map}
use Rattle.superstep_machine.specs.Sending.{several}
use Rattle.superstep_machine.specs.WordReading.{askers_read}
use Rattle.combining.specs.Gathering.{Gathers}
use Rattle.combining.proofs.readers.count_all.Given as goal

abbrev pub invariant-loop-words : goal.invariant-loop-words
invariant-loop-words g l =
    let m = g.M.AddressMap.shape l.map in
    record {
      long : length l.askers ≡ length l.fn.askers;
      gathered : (whole : ℕ → Option Bool) →
          Gathers m l.part several whole l.fn.askers (askers_read m l.part (map (λ x. x.now) l.columns) l.k)
          → Gathers m l.part several whole l.askers (askers_read m l.part (map (λ x. x.now) (drop l.words-index l.columns)) l.k);
    }
