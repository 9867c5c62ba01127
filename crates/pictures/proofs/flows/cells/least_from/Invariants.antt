use Rattle.pictures.proofs.OfFlows.Least.{InColumns}
use Rattle.pictures.proofs.flows.cells.least_from.Given as goal

abbrev pub invariant-loop-column : goal.invariant-loop-column
invariant-loop-column l = InColumns l.only l.start l.columns l.column-index l.least
