use Rattle.std.proofs.Common.{◌≡◌, length, ℕ, Option}
use Rattle.write_rules.specs.declared.entry.Entry.{Entry}
use Rattle.superstep_machine.specs.Sending.{join}
use Rattle.superstep_machine.specs.WordReading.{entry_of_column}
use Rattle.combining.specs.Gathering.{Gathers}
use Rattle.combining.proofs.merge.gather_column.Given as goal

abbrev pub invariant-loop-put : goal.invariant-loop-put
invariant-loop-put g l =
    let m = g.M.AddressMap.shape l.map in
    let rule = g.R.WriteRule.rule l.rule in
    record {
      long : length l.entries ≡ length l.fn.entries;
      gathered : (whole rest : ℕ → Option Entry) →
          Gathers m l.part (join rule) whole l.fn.entries (λ c. join rule (entry_of_column rule m l.part c l.words) (rest c))
          → Gathers m l.part (join rule) whole l.entries (λ c. join rule (entry_of_column rule m l.part c l.rest) (rest c));
    }

abbrev pub decreases-loop-put : goal.decreases-loop-put
decreases-loop-put g l = length l.rest
