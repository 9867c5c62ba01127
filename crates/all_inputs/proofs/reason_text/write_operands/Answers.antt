use Rattle.all_inputs.proofs.Parts.{stopped_in_first, stopped_in_second, three_parts}
use Rattle.all_inputs.proofs.reason_text.write_operands.Goals as goal

pub returns-in_err-write_interval : goal.returns-in_err-write_interval
returns-in_err-write_interval g c = record {
  written = stopped_in_first _ _ _ _ _ _ c.from_residual.ensures.1 c.in_err-write_interval.ensures.written;
}

pub returns-in_err-write_between : goal.returns-in_err-write_between
returns-in_err-write_between g c = record {
  written = stopped_in_second _ _ _ _ _ _ _ _ c.in_ok-write_interval.ensures.written
      c.from_residual-in_err-write_between.ensures.1 c.in_err-write_between.ensures.written;
}

pub returns : goal.returns
returns g c = record {
  written = three_parts _ _ _ _ _ _ _ _ c.in_ok-write_interval.ensures.written c.in_ok-write_between.ensures.written
      c.write_interval-2.ensures.written;
}
