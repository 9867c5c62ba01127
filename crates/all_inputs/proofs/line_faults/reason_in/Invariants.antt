use Rattle.std.proofs.Common.{◌≡◌, drop}
use Rattle.all_inputs.specs.Lines.{reason_at}
use Rattle.all_inputs.proofs.line_faults.reason_in.Given as goal

abbrev pub invariant-loop-entry : goal.invariant-loop-entry
invariant-loop-entry l = reason_at l.line l.kind (drop l.entry-index l.entries) ≡ reason_at l.line l.kind l.entries
