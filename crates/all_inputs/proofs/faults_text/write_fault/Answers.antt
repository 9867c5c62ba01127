use Rattle.all_inputs.proofs.Parts.{stopped_in_first, stopped_in_second, three_parts}
use Rattle.all_inputs.proofs.faults_text.write_fault.Goals as goal

pub returns-in_err-write_head : goal.returns-in_err-write_head
returns-in_err-write_head g c = record {
  written = stopped_in_first _ _ _ _ _ _ c.from_residual.ensures.1 c.in_err-write_head.ensures.written;
}

pub returns-in_err-write_reason : goal.returns-in_err-write_reason
returns-in_err-write_reason g c = record {
  written = stopped_in_second _ _ _ _ _ _ _ _ c.in_ok-write_head.ensures.written c.from_residual-in_err-write_reason.ensures.1
      c.in_err-write_reason.ensures.written;
}

pub returns : goal.returns
returns g c = record {
  written = three_parts _ _ _ _ _ _ _ _ c.in_ok-write_head.ensures.written c.in_ok-write_reason.ensures.written
      c.write_all.ensures.written;
}
