use Rattle.all_inputs.proofs.Parts.{four_parts, stopped_in_first, stopped_in_second, stopped_in_third}
use Rattle.all_inputs.proofs.overall_text.write_overall.Goals as goal

pub returns-in_err-write_scope : goal.returns-in_err-write_scope
returns-in_err-write_scope g c = record {
  written = stopped_in_first _ _ _ _ _ _ c.from_residual.ensures.1 c.in_err-write_scope.ensures.written;
}

pub returns-in_err-write_faults : goal.returns-in_err-write_faults
returns-in_err-write_faults g c = record {
  written = stopped_in_second _ _ _ _ _ _ _ _ c.in_ok-write_scope.ensures.written c.from_residual-in_err-write_faults.ensures.1
      c.in_err-write_faults.ensures.written;
}

pub returns-in_err-write_going_on : goal.returns-in_err-write_going_on
returns-in_err-write_going_on g c = record {
  written = stopped_in_third _ _ _ _ _ _ _ _ _ _ c.in_ok-write_scope.ensures.written c.in_ok-write_faults.ensures.written
      c.from_residual-in_err-write_going_on.ensures.1 c.in_err-write_going_on.ensures.written;
}

pub returns : goal.returns
returns g c = record {
  written = four_parts _ _ _ _ _ _ _ _ _ _ c.in_ok-write_scope.ensures.written c.in_ok-write_faults.ensures.written
      c.in_ok-write_going_on.ensures.written c.write_end.ensures.written;
}
