use Rattle.std.proofs.Common.{◌≡◌, length, ℕ, map, drop}
use Rattle.superstep_machine.specs.Sending.{verdict_on, settled}
use Rattle.superstep_machine.specs.WordReading.{entry_read}
use Rattle.combining.specs.Gathering.{value_at}
use Rattle.combining.specs.Merged.{refusal}
use Rattle.combining.specs.Alone.{AscendAll, Leaves}
use Rattle.combining.proofs.alone.settle_all_alone.Given as goal

abbrev pub invariant-loop-words : goal.invariant-loop-words
invariant-loop-words g l =
    let m = g.M.AddressMap.shape l.map in
    let rule = g.R.WriteRule.rule l.rule in
    let all = entry_read rule m l.part (map (λ x. x.now) l.columns) in
    let left = map (λ x. x.now) (drop l.words-index l.columns) in
    record {
      long : length l.values ≡ length l.fn.values;
      ascend : (n : ℕ) × AscendAll rule m l.part n left;
      left : Leaves m rule l.part (λ c. settled (verdict_on rule (all c)) (value_at l.fn.values (m.offset c)))
          (λ c. refusal (verdict_on rule (all c))) l.values l.noted (entry_read rule m l.part left);
    }
