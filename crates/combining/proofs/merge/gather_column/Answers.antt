use Rattle.std.proofs.Common.{length, ℕ, sym, ap, ◌∙◌, length-set, Option, Some}
use Rattle.write_rules.specs.declared.entry.Entry.{Entry}
use Rattle.superstep_machine.specs.WordReading.{entry_of_column}
use Rattle.superstep_machine.specs.Sending.{join, entry_in}
use Rattle.superstep_machine.proofs.Collected.{entries_are_monoid}
use Rattle.combining.specs.Held.{put_at}
use Rattle.combining.specs.Gathering.{slot}
use Rattle.combining.proofs.Gathered.{Gathers_same, gather_one}
use Rattle.combining.proofs.Columns.{column_next, column_end, entry_here, entry_other}
use Rattle.combining.proofs.merge.gather_column.Goals as goal

pub loop-put-preserved : goal.loop-put-preserved
loop-put-preserved g c =
    let m = g.M.AddressMap.shape c.args.map.now in
    let lawful = g.met.M.AddressMap.lawful c.args.map.now in
    let rule = g.R.WriteRule.rule c.args.rule.now in
    let op = join rule in
    let monoid = entries_are_monoid rule in
    let j = c.args.part in
    let inv = c.loop-put.invariant in
    let x = c.in-Some.put in
    let e = put_at x.cell x.entry in
    let placed = c.in-Some.ensures.fits in
    let before : (ℕ → Option Entry) → ℕ → Option Entry = λ rest d. op (entry_of_column rule m j d c.loop-put.rest.now) (rest d) in
    let after : (ℕ → Option Entry) → ℕ → Option Entry = λ rest d. op (entry_of_column rule m j d c.in-Some.behind.now) (rest d) in
    record {
      long = ap length c.keep.ensures ∙ length-set _ _ _ ∙ inv.long;
      gathered = λ whole rest known. rw (c.keep.ensures, placed.is)
          (gather_one op monoid m lawful j c.loop-put.entries (inv.long ∙ c.requires) x.cell placed.of (λ d. entry_in d e) (after rest)
          (λ d ne. entry_other d e ne) whole c.joined.result
          (c.joined.ensures ∙ ap (λ b. op b (Some x.entry)) c.get-before.ensures
          ∙ ap (λ o. op (slot c.loop-put.entries o) (Some x.entry)) placed.is
          ∙ ap (op (slot c.loop-put.entries (m.offset x.cell))) (sym (entry_here x.cell x.entry)))
          (Gathers_same op monoid m lawful j whole c.loop-put.entries (before rest) (λ d. op (entry_in d e) (after rest d))
          (column_next rule m j c.loop-put.rest.now c.in-Some.behind.now x c.in-Some.ensures.item rest) (inv.gathered whole rest known)));
    }

pub returns-clause-gathered : goal.returns-clause-gathered
returns-clause-gathered g c whole rest known =
    let m = g.M.AddressMap.shape c.args.map.now in
    let rule = g.R.WriteRule.rule c.args.rule.now in
    let op = join rule in
    let ws = c.loop-put.rest.now in
    Gathers_same op (entries_are_monoid rule) m (g.met.M.AddressMap.lawful c.args.map.now) c.args.part whole c.loop-put.entries
    (λ d. op (entry_of_column rule m c.args.part d ws) (rest d)) rest
    (column_end rule m c.args.part ws (c.next.ensures.none c.in_default.is) rest) (c.loop-put.invariant.gathered whole rest known)
