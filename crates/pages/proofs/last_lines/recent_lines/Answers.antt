use Rattle.std.proofs.Common.{◌≡◌, ◌+◌, arith, length, map, subst}
use Rattle.journal.specs.Entries.{entry_is}
use Rattle.json_texts.specs.StepFacts.{steps_from}
use Rattle.pages.specs.Gathered.{AddsLines}
use Rattle.pages.proofs.AllLines.{both_lines}
use Rattle.pages.proofs.last_lines.recent_lines.Goals as goal

pub returns : goal.returns
returns c =
    let a = c.args.asked in
    let r = c.args.recent.now in
    let k = c.new-lines.result in
    let l = c.add_lines.new.lines in
    let m = c.add_lines-2.new.lines in
    let at : c.in-Some.before ≡ r.left + length r.older.items =
    (let e = c.in-Some.ensures in let l = c.len.ensures in let o = r.older.ok.0 in omega (arith, e, l, o)) in
    both_lines a k l m r.left c.in-Some.before r.older.items r.newer.items c.new-lines.ensures at
    (subst (λ es. AddsLines k l (steps_from a.layout.now a.tree.now a.source.now a.first a.last (r.left + 1) (map entry_is es)))
    c.deref.ensures.value c.in_ok-add_lines.ensures)
    (subst (λ es. AddsLines l m (steps_from a.layout.now a.tree.now a.source.now a.first a.last (c.in-Some.before + 1) (map entry_is es)))
    c.deref-2.ensures.value c.in_ok-add_lines-2.ensures)
