use Rattle.all_inputs.proofs.Parts.{stopped_in_first, two_parts}
use Rattle.all_inputs.proofs.overall_text.write_why.Goals as goal

pub returns-in_err-write_undecided_head : goal.returns-in_err-write_undecided_head
returns-in_err-write_undecided_head g c = record {
  written = stopped_in_first _ _ _ _ _ _ c.from_residual.ensures.1 c.in_err-write_undecided_head.ensures.written;
}

pub returns : goal.returns
returns g c = record {
  written = two_parts _ _ _ _ _ _ c.in_ok-write_undecided_head.ensures.written c.write_all.ensures.written;
}
