use Rattle.std.proofs.Common.{◌<◌, ◌+◌, ℕ, Option, None, length, map, drop, ◌∙◌, arith}
use Rattle.write_rules.specs.declared.entry.Entry.{Entry}
use Rattle.superstep_machine.specs.Sending.{join, verdict_on}
use Rattle.superstep_machine.proofs.Collected.{entries_are_monoid}
use Rattle.superstep_machine.specs.WordReading.{entry_of_column, entry_read}
use Rattle.combining.specs.Merged.{refusal}
use Rattle.combining.proofs.Gathered.{Notes_same}
use Rattle.combining.proofs.Columns.{columns_more, columns_end}
use Rattle.combining.proofs.merge.settle_all.Goals as goal

pub loop-words-preserved : goal.loop-words-preserved
loop-words-preserved g c =
    let m = g.M.AddressMap.shape c.args.map.now in
    let lawful = g.met.M.AddressMap.lawful c.args.map.now in
    let rule = g.R.WriteRule.rule c.args.rule.now in
    let inv = c.loop-words.invariant in
    let columns = c.args.columns.now in
    let i = c.loop-words.words-index in
    let l : i < length columns = omega arith in
    let left : ℕ → ℕ → Option Entry = λ n. entry_read rule m c.args.part (map (λ x. x.now) (drop n columns)) in
    record {
      as_many = c.settle_column-noted.ensures.entries ∙ inv.as_many;
      long = c.settle_column-noted.ensures.values ∙ inv.long;
      notes = λ start known. c.settle_column-noted.ensures.noted start (left (i + 1))
          (Notes_same (join rule) (entries_are_monoid rule) m lawful c.args.part (λ x. refusal (verdict_on rule x)) start
          c.loop-words.entries c.loop-words.noted (left i) _
          (λ d. columns_more (join rule) (entry_of_column rule m c.args.part d) columns i _ l) (inv.notes start known));
      owes = λ due known. c.settle_column-noted.ensures.owed due (inv.owes due known);
    }

pub returns-clause-noted : goal.returns-clause-noted
returns-clause-noted g c start known =
    let m = g.M.AddressMap.shape c.args.map.now in
    let rule = g.R.WriteRule.rule c.args.rule.now in
    let columns = c.args.columns.now in
    let i = c.loop-words.words-index in
    Notes_same (join rule) (entries_are_monoid rule) m (g.met.M.AddressMap.lawful c.args.map.now) c.args.part
    (λ x. refusal (verdict_on rule x)) start c.loop-words.entries c.loop-words.noted
    (entry_read rule m c.args.part (map (λ x. x.now) (drop i columns))) (λ d. None)
    (λ d. columns_end (join rule) (entry_of_column rule m c.args.part d) columns i (omega arith)) (c.loop-words.invariant.notes start known)
