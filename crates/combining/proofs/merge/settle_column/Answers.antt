use Rattle.std.proofs.Common.{length, ℕ, ap, ◌∙◌, length-set, refl, Option}
use Rattle.write_rules.specs.declared.entry.Entry.{Entry}
use Rattle.superstep_machine.specs.WordReading.{entry_of_column}
use Rattle.superstep_machine.specs.Sending.{join, entry_in, verdict_on}
use Rattle.superstep_machine.proofs.Collected.{entries_are_monoid}
use Rattle.combining.specs.Held.{put_at}
use Rattle.combining.specs.Merged.{refusal}
use Rattle.combining.proofs.Gathered.{Notes_same, note_taken, settle_one}
use Rattle.combining.proofs.Columns.{column_next, column_end, entry_other}
use Rattle.combining.proofs.merge.settle_column.Goals as goal

pub loop-put-preserved : goal.loop-put-preserved
loop-put-preserved g c =
    let m = g.M.AddressMap.shape c.args.map.now in
    let lawful = g.met.M.AddressMap.lawful c.args.map.now in
    let rule = g.R.WriteRule.rule c.args.rule.now in
    let op = join rule in
    let monoid = entries_are_monoid rule in
    let judge = λ (o : Option Entry). refusal (verdict_on rule o) in
    let j = c.args.part in
    let inv = c.loop-put.invariant in
    let x = c.in-Some.put in
    let e = put_at x.cell x.entry in
    let placed = c.in-Some.ensures.fits in
    let done = c.settle_at-noted.ensures in
    let before : (ℕ → Option Entry) → ℕ → Option Entry = λ rest d. op (entry_of_column rule m j d c.loop-put.rest.now) (rest d) in
    let after : (ℕ → Option Entry) → ℕ → Option Entry = λ rest d. op (entry_of_column rule m j d c.in-Some.behind.now) (rest d) in
    record {
      as_many = ap length done.entries ∙ length-set _ _ _ ∙ inv.as_many;
      long = ap length done.values ∙ length-set _ _ _ ∙ inv.long;
      notes = λ start rest known. rw (done.entries, done.noted, placed.is)
          (note_taken op monoid m lawful j c.loop-put.entries (inv.as_many ∙ c.requires.entries) x.cell placed.of (λ d. entry_in d e)
          (after rest)
          (λ d ne. entry_other d e ne) judge refl start c.loop-put.noted
          (Notes_same op monoid m lawful j judge start c.loop-put.entries c.loop-put.noted (before rest)
          (λ d. op (entry_in d e) (after rest d))
          (column_next rule m j c.loop-put.rest.now c.in-Some.behind.now x c.in-Some.ensures.item rest) (inv.notes start rest known)));
      owes = λ due known. rw (done.entries, done.values, placed.is)
          (settle_one m lawful rule j c.loop-put.entries (inv.as_many ∙ c.requires.entries) c.loop-put.values (inv.long ∙ c.requires.values)
          x.cell placed.of due (inv.owes due known));
    }

pub returns-clause-noted : goal.returns-clause-noted
returns-clause-noted g c start rest known =
    let m = g.M.AddressMap.shape c.args.map.now in
    let rule = g.R.WriteRule.rule c.args.rule.now in
    let op = join rule in
    let ws = c.loop-put.rest.now in
    Notes_same op (entries_are_monoid rule) m (g.met.M.AddressMap.lawful c.args.map.now) c.args.part (λ x. refusal (verdict_on rule x))
    start
    c.loop-put.entries c.loop-put.noted (λ d. op (entry_of_column rule m c.args.part d ws) (rest d)) rest
    (column_end rule m c.args.part ws (c.next.ensures.none c.in_default.is) rest) (c.loop-put.invariant.notes start rest known)
