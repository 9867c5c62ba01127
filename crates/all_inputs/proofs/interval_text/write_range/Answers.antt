use Rattle.all_inputs.proofs.Parts.{stopped_in_first, stopped_in_second, three_parts}
use Rattle.all_inputs.proofs.interval_text.write_range.Goals as goal

pub returns-in_err-write_number : goal.returns-in_err-write_number
returns-in_err-write_number g c = record {
  written = stopped_in_first _ _ _ _ _ _ c.from_residual.ensures.1 c.in_err-write_number.ensures.written;
}

pub returns-in_err-write_all : goal.returns-in_err-write_all
returns-in_err-write_all g c = record {
  written = stopped_in_second _ _ _ _ _ _ _ _ c.in_ok-write_number.ensures.written c.from_residual-in_err-write_all.ensures.1
      c.in_err-write_all.ensures.written;
}

pub returns : goal.returns
returns g c = record {
  written = three_parts _ _ _ _ _ _ _ _ c.in_ok-write_number.ensures.written c.in_ok-write_all.ensures.written
      c.write_number-2.ensures.written;
}
