use Rattle.all_inputs.proofs.Parts.{stopped_in_first, two_parts}
use Rattle.all_inputs.proofs.overall_text.write_undecided.Goals as goal

pub returns-in_err-write_scope : goal.returns-in_err-write_scope
returns-in_err-write_scope g c = record {
  written = stopped_in_first _ _ _ _ _ _ c.from_residual.ensures.1 c.in_err-write_scope.ensures.written;
}

pub returns : goal.returns
returns g c = record {
  written = two_parts _ _ _ _ _ _ c.in_ok-write_scope.ensures.written c.write_undecided_line.ensures.written;
}
