use Rattle.std.proofs.Common.{◌+◌, subst, sym}
use Rattle.pages.proofs.LinePlaces.{Counting, counting_line, counting_on}
use Rattle.pages.proofs.line_end.size_of_lines.Goals.{else-bytes-at-eq10, then-bytes-at-eq10}
use Rattle.pages.proofs.line_end.size_of_lines.Goals as goal

pub loop-left-preserved : goal.loop-left-preserved
loop-left-preserved c =
    let bytes = c.args.bytes.now in
    let lines = c.args.lines in
    let l = c.loop-left in
    elim c.if-bytes-at-eq10.branch [
      | then-bytes-at-eq10 w ↦ subst (λ n. Counting bytes lines n (l.at + 1)) (sym w.left-is)
          (counting_line bytes lines l.left l.at l.invariant c.if-bytes-at.false c.loop-left-test.true w.if-bytes-at-eq10.true)
      | else-bytes-at-eq10 w ↦ subst (λ n. Counting bytes lines n (l.at + 1)) (sym w.left-is)
          (counting_on bytes lines l.left l.at l.invariant c.if-bytes-at.false c.loop-left-test.true w.if-bytes-at-eq10.false)
    ]
