use Rattle.pictures.proofs.OfFlows.FaultRow.{InFaults}
use Rattle.pictures.proofs.flows.cells.fault_cell.Given as goal

abbrev pub invariant-loop-column : goal.invariant-loop-column
invariant-loop-column l = InFaults l.only l.columns l.column-index l.cell
