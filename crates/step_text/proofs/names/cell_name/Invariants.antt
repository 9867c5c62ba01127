use Rattle.std.proofs.Common.{◌≡◌, drop}
use Rattle.step_text.specs.Focus.{cell_name}
use Rattle.step_text.proofs.names.cell_name.Given as goal

abbrev pub invariant-loop-i : goal.invariant-loop-i
invariant-loop-i l = cell_name l.layout l.cell ≡ cell_name (drop l.i l.layout) l.rest
