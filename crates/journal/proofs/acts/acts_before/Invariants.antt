use Rattle.journal.specs.Acts.{act_before}
use Rattle.journal.proofs.ActLists.{InActs}
use Rattle.journal.proofs.acts.acts_before.Given as goal

abbrev pub invariant-loop-x : goal.invariant-loop-x
invariant-loop-x l = InActs (act_before l.cells l.at) l.parts l.x-index l.acts.items
