use Rattle.journal.proofs.Differing.{InDifference}
use Rattle.journal.proofs.differences.changes_between.Given as goal

abbrev pub invariant-loop-cell : goal.invariant-loop-cell
invariant-loop-cell l = InDifference l.before l.after l.cell l.changes.items
