use Rattle.std.proofs.Common.{◌≡◌, ◌<◌, length, ℕ, ℤ, Option, None}
use Rattle.pram_values.specs.declared.kind.Kind.{Kind}
use Rattle.write_rules.specs.declared.entry.Entry.{Entry}
use Rattle.superstep_machine.specs.Sending.{join}
use Rattle.superstep_machine.specs.WordReading.{entry_of_column}
use Rattle.combining.specs.Alone.{cells_put, AscendTo, Leaves}
use Rattle.combining.proofs.alone.settle_column_alone.Given as goal

abbrev pub invariant-loop-put : goal.invariant-loop-put
invariant-loop-put g l =
    let m = g.M.AddressMap.shape l.map in
    let rule = g.R.WriteRule.rule l.rule in
    record {
      long : length l.values ≡ length l.fn.values;
      left : (due : ℕ → ℤ) (found : ℕ → Option Kind) (rest : ℕ → Option Entry) (n k : ℕ) →
          AscendTo n (cells_put rule m l.part l.words) k → ((c : ℕ) → c < k → rest c ≡ None) →
          Leaves m rule l.part due found l.fn.values l.fn.before (λ c. join rule (entry_of_column rule m l.part c l.words) (rest c)) →
          (n' : ℕ) × AscendTo n' (cells_put rule m l.part l.rest) k
          × Leaves m rule l.part due found l.values l.noted (λ c. join rule (entry_of_column rule m l.part c l.rest) (rest c));
    }

abbrev pub decreases-loop-put : goal.decreases-loop-put
decreases-loop-put g l = length l.rest
