use Rattle.std.proofs.Common.{◌≡◌, ◌+◌, ◌-◌, ◌≤◌, length, drop}
use Rattle.sized_texts.specs.SizeLines.{comment_length}
use Rattle.laid_out_texts.proofs.length.comment_len.Given as goal

abbrev pub invariant-loop-end : goal.invariant-loop-end
invariant-loop-end l = (l.end + comment_length (drop l.end l.text) ≡ comment_length l.text) × (l.end ≤ length l.text)

abbrev pub decreases-loop-end : goal.decreases-loop-end
decreases-loop-end l = length l.text - l.end
