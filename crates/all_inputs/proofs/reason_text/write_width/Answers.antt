use Rattle.all_inputs.proofs.Parts.{stopped_in_first, two_parts}
use Rattle.all_inputs.proofs.reason_text.write_width.Goals as goal

pub returns-in_err-write_all : goal.returns-in_err-write_all
returns-in_err-write_all g c = record {
  written = stopped_in_first _ _ _ _ _ _ c.from_residual.ensures.1 c.in_err-write_all.ensures.written;
}

pub returns : goal.returns
returns g c = record {
  written = two_parts _ _ _ _ _ _ c.in_ok-write_all.ensures.written c.write_range.ensures.written;
}
