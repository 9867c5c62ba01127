use Rattle.journal.proofs.ActLists.{InReadings}
use Rattle.journal.proofs.acts.readings_of.Given as goal

abbrev pub invariant-loop-access : goal.invariant-loop-access
invariant-loop-access l = InReadings l.cells l.trail l.access-index l.position l.readings.items
