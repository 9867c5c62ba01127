use Rattle.std.proofs.Common.{◌-◌, length}
use Rattle.pages.proofs.LinePlaces.{Counting}
use Rattle.pages.proofs.line_end.size_of_lines.Given as goal

abbrev pub invariant-loop-left : goal.invariant-loop-left
invariant-loop-left l = Counting l.bytes l.lines l.left l.at

abbrev pub decreases-loop-left : goal.decreases-loop-left
decreases-loop-left l = length l.bytes - l.at
