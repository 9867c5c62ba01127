use Rattle.pictures.proofs.OfFlows.Least.{InActs}
use Rattle.pictures.proofs.flows.cells.with_acts.Given as goal

abbrev pub invariant-loop-act : goal.invariant-loop-act
invariant-loop-act l = InActs l.only l.start l.fn.best l.acts l.act-index l.least
