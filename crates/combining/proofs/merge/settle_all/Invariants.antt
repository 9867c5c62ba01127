use Rattle.std.proofs.Common.{◌≡◌, length, ℕ, ℤ, Option, None, drop, map}
use Rattle.write_rules.specs.declared.entry.Entry.{Entry}
use Rattle.superstep_machine.specs.Sending.{verdict_on}
use Rattle.superstep_machine.specs.WordReading.{entry_read}
use Rattle.combining.specs.Gathering.{Notes, Owes}
use Rattle.combining.specs.Merged.{refusal}
use Rattle.combining.proofs.merge.settle_all.Given as goal

abbrev pub invariant-loop-words : goal.invariant-loop-words
invariant-loop-words g l =
    let m = g.M.AddressMap.shape l.map in
    let rule = g.R.WriteRule.rule l.rule in
    record {
      as_many : length l.entries ≡ length l.fn.entries;
      long : length l.values ≡ length l.fn.values;
      notes : (start : ℕ → Option Entry) →
          Notes m l.part (λ x. refusal (verdict_on rule x)) start l.fn.entries None (entry_read rule m l.part (map (λ x. x.now) l.columns))
          → Notes m l.part (λ x. refusal (verdict_on rule x)) start l.entries l.noted
          (entry_read rule m l.part (map (λ x. x.now) (drop l.words-index l.columns)));
      owes : (due : ℕ → ℤ) → Owes m rule l.part due l.fn.entries l.fn.values → Owes m rule l.part due l.entries l.values;
    }
