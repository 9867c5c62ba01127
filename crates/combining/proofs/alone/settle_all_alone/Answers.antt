use Rattle.std.proofs.Common.{◌<◌, ◌+◌, ℕ, List, Bor, Option, None, length, map, drop, subst, ◌∙◌, arith}
use Rattle.std.proofs.lemmas.List.{drop_more}
use Rattle.write_rules.specs.declared.entry.Entry.{Entry}
use Rattle.superstep_machine.specs.Sending.{join, verdict_on, settled}
use Rattle.superstep_machine.specs.WordReading.{entry_of_column, entry_read}
use Rattle.combining.specs.Gathering.{value_at}
use Rattle.combining.specs.Merged.{refusal}
use Rattle.combining.specs.Alone.{AscendAll}
use Rattle.combining.proofs.Columns.{columns_more, columns_end}
use Rattle.combining.proofs.OnlyPuts.{none_of_all, Leaves_same, all_settled}
use Rattle.combining.proofs.alone.settle_all_alone.Goals as goal

pub loop-words-preserved : goal.loop-words-preserved
loop-words-preserved g c =
    let m = g.M.AddressMap.shape c.args.map.now in
    let rule = g.R.WriteRule.rule c.args.rule.now in
    let j = c.args.part in
    let inv = c.loop-words.invariant in
    let columns = c.args.columns.now in
    let i = c.loop-words.words-index in
    let l : i < length columns = omega arith in
    let left : ℕ → ℕ → Option Entry = λ n. entry_read rule m j (map (λ x. x.now) (drop n columns)) in
    let all : ℕ → Option Entry = entry_read rule m j (map (λ x. x.now) columns) in
    let due = λ (d : ℕ). settled (verdict_on rule (all d)) (value_at c.args.values.now (m.offset d)) in
    let found = λ (d : ℕ). refusal (verdict_on rule (all d)) in
    let h = subst (λ (xs : List (Bor (List ℕ))). AscendAll rule m j inv.ascend.0 (map (λ x. x.now) xs)) (drop_more columns i _ l)
    inv.ascend.1 in
    record {
      long = c.settle_column_alone-noted.ensures.values ∙ inv.long;
      ascend = (h.0, h.2);
      left = c.settle_column_alone-noted.ensures.settled due found (left (i + 1)) inv.ascend.0 h.0 h.1
          (λ d b. none_of_all rule m j (map (λ x. x.now) (drop (i + 1) columns)) h.0 d h.2 b)
          (Leaves_same rule m j due found c.loop-words.values c.loop-words.noted (left i) _
          (λ d. columns_more (join rule) (entry_of_column rule m j d) columns i _ l) inv.left);
    }

pub returns-clause-merged : goal.returns-clause-merged
returns-clause-merged g c =
    let m = g.M.AddressMap.shape c.args.map.now in
    let rule = g.R.WriteRule.rule c.args.rule.now in
    let j = c.args.part in
    let inv = c.loop-words.invariant in
    let columns = c.args.columns.now in
    let i = c.loop-words.words-index in
    let all : ℕ → Option Entry = entry_read rule m j (map (λ x. x.now) columns) in
    all_settled rule m j (map (λ x. x.now) columns) c.args.values.now c.loop-words.values c.loop-words.noted inv.long
    (Leaves_same rule m j (λ d. settled (verdict_on rule (all d)) (value_at c.args.values.now (m.offset d)))
    (λ d. refusal (verdict_on rule (all d))) c.loop-words.values c.loop-words.noted
    (entry_read rule m j (map (λ x. x.now) (drop i columns))) (λ d. None)
    (λ d. columns_end (join rule) (entry_of_column rule m j d) columns i (omega arith)) inv.left)
