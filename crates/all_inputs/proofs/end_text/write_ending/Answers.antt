use Rattle.all_inputs.proofs.Parts.{stopped_in_first, two_parts}
use Rattle.all_inputs.proofs.end_text.write_ending.Goals as goal

pub returns-in_err-write_time : goal.returns-in_err-write_time
returns-in_err-write_time g c = record {
  written = stopped_in_first _ _ _ _ _ _ c.from_residual.ensures.1 c.in_err-write_time.ensures.written;
}

pub returns : goal.returns
returns g c = record {
  written = two_parts _ _ _ _ _ _ c.in_ok-write_time.ensures.written c.write_declared_lines.ensures.written;
}
