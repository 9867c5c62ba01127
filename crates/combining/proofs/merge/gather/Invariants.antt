use Rattle.std.proofs.Common.{◌≡◌, length, ℕ, Option, drop, map}
use Rattle.write_rules.specs.declared.entry.Entry.{Entry}
use Rattle.superstep_machine.specs.Sending.{join}
use Rattle.superstep_machine.specs.WordReading.{entry_read}
use Rattle.combining.specs.Gathering.{Gathers}
use Rattle.combining.proofs.merge.gather.Given as goal

abbrev pub invariant-loop-words : goal.invariant-loop-words
invariant-loop-words g l =
    let m = g.M.AddressMap.shape l.map in
    let rule = g.R.WriteRule.rule l.rule in
    record {
      long : length l.entries ≡ length l.fn.entries;
      gathered : (whole : ℕ → Option Entry) →
          Gathers m l.part (join rule) whole l.fn.entries (entry_read rule m l.part (map (λ x. x.now) l.columns))
          → Gathers m l.part (join rule) whole l.entries (entry_read rule m l.part (map (λ x. x.now) (drop l.words-index l.columns)));
    }
