use Rattle.journal.proofs.ActLists.{InReadList}
use Rattle.journal.proofs.acts.reads_of.Given as goal

abbrev pub invariant-loop-access : goal.invariant-loop-access
invariant-loop-access l = InReadList l.trail l.access-index l.reads.items
