use Rattle.journal.specs.Acts.{act_of}
use Rattle.journal.proofs.ActLists.{InActs}
use Rattle.journal.proofs.acts.acts_of.Given as goal

abbrev pub invariant-loop-x : goal.invariant-loop-x
invariant-loop-x l = InActs (act_of l.cells) l.parts l.x-index l.acts.items
