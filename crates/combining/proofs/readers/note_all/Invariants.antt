use Rattle.std.proofs.Common.{◌≡◌, length, ℕ, Option, None, Bool, drop, map}
use Rattle.superstep_machine.specs.WordReading.{askers_read}
use Rattle.combining.specs.Gathering.{Notes}
use Rattle.combining.specs.Merged.{shared}
use Rattle.combining.proofs.readers.note_all.Given as goal

abbrev pub invariant-loop-words : goal.invariant-loop-words
invariant-loop-words g l =
    let m = g.M.AddressMap.shape l.map in
    record {
      long : length l.askers ≡ length l.fn.askers;
      notes : (start : ℕ → Option Bool) →
          Notes m l.part shared start l.fn.askers None (askers_read m l.part (map (λ x. x.now) l.columns) l.k)
          → Notes m l.part shared start l.askers l.noted (askers_read m l.part (map (λ x. x.now) (drop l.words-index l.columns)) l.k);
    }
