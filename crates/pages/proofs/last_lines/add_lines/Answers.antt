use Rattle.std.proofs.Common.{◌≡◌, ◌+◌, arith, subst, sym}
use Rattle.pages.specs.Gathered.{AddsLines}
use Rattle.pages.specs.GatheredLaws.{adds_both}
use Rattle.pages.proofs.AllLines.{lines_more}
use Rattle.pages.proofs.last_lines.add_lines.Goals as goal

pub loop-entry-preserved : goal.loop-entry-preserved
loop-entry-preserved c =
    let l = c.loop-entry in
    let i = l.entry-index in
    let so_far : l.number ≡ c.args.before + i = l.invariant.counted in
    let next = c.in-Some.ensures in
    let n : c.in-Some.next ≡ (c.args.before + i) + 1 = omega (arith, next, so_far) in
    record {
      counted = omega (arith, n);
      added = subst (AddsLines c.args.lines.now c.add_line.new.lines)
          (sym (lines_more c.args.asked c.args.before i c.in-Some.next c.args.entries.now c.entry-item.result c.loop-entry-test.true
          c.entry-item.is n)) (adds_both c.args.lines.now l.lines c.add_line.new.lines _ _ l.invariant.added c.in_ok-add_line.ensures);
    }
