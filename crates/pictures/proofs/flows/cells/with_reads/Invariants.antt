use Rattle.pictures.proofs.OfFlows.Least.{InReads}
use Rattle.pictures.proofs.flows.cells.with_reads.Given as goal

abbrev pub invariant-loop-cell : goal.invariant-loop-cell
invariant-loop-cell l = InReads l.only l.start l.fn.best l.reads l.cell-index l.least
