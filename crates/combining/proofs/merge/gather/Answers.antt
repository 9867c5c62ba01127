use Rattle.std.proofs.Common.{◌<◌, ◌+◌, ℕ, Option, None, length, map, drop, ◌∙◌, arith}
use Rattle.write_rules.specs.declared.entry.Entry.{Entry}
use Rattle.superstep_machine.specs.Sending.{join}
use Rattle.superstep_machine.proofs.Collected.{entries_are_monoid}
use Rattle.superstep_machine.specs.WordReading.{entry_of_column, entry_read}
use Rattle.combining.proofs.Gathered.{Gathers_same}
use Rattle.combining.proofs.Columns.{columns_more, columns_end}
use Rattle.combining.proofs.merge.gather.Goals as goal

pub loop-words-preserved : goal.loop-words-preserved
loop-words-preserved g c =
    let m = g.M.AddressMap.shape c.args.map.now in
    let lawful = g.met.M.AddressMap.lawful c.args.map.now in
    let rule = g.R.WriteRule.rule c.args.rule.now in
    let inv = c.loop-words.invariant in
    let columns = c.args.columns.now in
    let i = c.loop-words.words-index in
    let l : i < length columns = omega arith in
    let left : ℕ → ℕ → Option Entry = λ n. entry_read rule m c.args.part (map (λ x. x.now) (drop n columns)) in
    record {
      long = c.gather_column.ensures.length ∙ inv.long;
      gathered = λ whole known. c.gather_column.ensures.gathered whole (left (i + 1))
          (Gathers_same (join rule) (entries_are_monoid rule) m lawful c.args.part whole c.loop-words.entries (left i) _
          (λ d. columns_more (join rule) (entry_of_column rule m c.args.part d) columns i _ l) (inv.gathered whole known));
    }

pub returns-clause-gathered : goal.returns-clause-gathered
returns-clause-gathered g c whole known =
    let m = g.M.AddressMap.shape c.args.map.now in
    let rule = g.R.WriteRule.rule c.args.rule.now in
    let columns = c.args.columns.now in
    let i = c.loop-words.words-index in
    Gathers_same (join rule) (entries_are_monoid rule) m (g.met.M.AddressMap.lawful c.args.map.now) c.args.part whole c.loop-words.entries
    (entry_read rule m c.args.part (map (λ x. x.now) (drop i columns))) (λ d. None)
    (λ d. columns_end (join rule) (entry_of_column rule m c.args.part d) columns i (omega arith))
    (c.loop-words.invariant.gathered whole known)
