use Rattle.all_inputs.proofs.Parts.{stopped_in_first, two_parts}
use Rattle.all_inputs.proofs.faults_text.write_some.Goals as goal

pub returns-in_err-write_told : goal.returns-in_err-write_told
returns-in_err-write_told g c = record {
  written = stopped_in_first _ _ _ _ _ _ c.from_residual.ensures.1 c.in_err-write_told.ensures.written;
}

pub returns : goal.returns
returns g c = record {
  written = two_parts _ _ _ _ _ _ c.in_ok-write_told.ensures.written c.write_more.ensures.written;
}
