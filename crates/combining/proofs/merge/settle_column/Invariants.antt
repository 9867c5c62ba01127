use Rattle.std.proofs.Common.{◌≡◌, length, ℕ, ℤ, Option}
use Rattle.write_rules.specs.declared.entry.Entry.{Entry}
use Rattle.superstep_machine.specs.Sending.{join, verdict_on}
use Rattle.superstep_machine.specs.WordReading.{entry_of_column}
use Rattle.combining.specs.Gathering.{Notes, Owes}
use Rattle.combining.specs.Merged.{refusal}
use Rattle.combining.proofs.merge.settle_column.Given as goal

abbrev pub invariant-loop-put : goal.invariant-loop-put
invariant-loop-put g l =
    let m = g.M.AddressMap.shape l.map in
    let rule = g.R.WriteRule.rule l.rule in
    record {
      as_many : length l.entries ≡ length l.fn.entries;
      long : length l.values ≡ length l.fn.values;
      notes : (start rest : ℕ → Option Entry) →
          Notes m l.part (λ x. refusal (verdict_on rule x)) start l.fn.entries l.fn.before
          (λ c. join rule (entry_of_column rule m l.part c l.words) (rest c))
          → Notes m l.part (λ x. refusal (verdict_on rule x)) start l.entries l.noted
          (λ c. join rule (entry_of_column rule m l.part c l.rest) (rest c));
      owes : (due : ℕ → ℤ) → Owes m rule l.part due l.fn.entries l.fn.values → Owes m rule l.part due l.entries l.values;
    }

abbrev pub decreases-loop-put : goal.decreases-loop-put
decreases-loop-put g l = length l.rest
