use Rattle.all_inputs.proofs.Parts.{stopped_in_first, stopped_in_second, three_parts}
use Rattle.all_inputs.proofs.overall_text.write_many.Goals as goal

pub returns-in_err-write_all : goal.returns-in_err-write_all
returns-in_err-write_all g c = record {
  written = stopped_in_first _ _ _ _ _ _ c.from_residual.ensures.1 c.in_err-write_all.ensures.written;
}

pub returns-in_err-write_count : goal.returns-in_err-write_count
returns-in_err-write_count g c = record {
  written = stopped_in_second _ _ _ _ _ _ _ _ c.in_ok-write_all.ensures.written c.from_residual-in_err-write_count.ensures.1
      c.in_err-write_count.ensures.written;
}

pub returns : goal.returns
returns g c = record {
  written = three_parts _ _ _ _ _ _ _ _ c.in_ok-write_all.ensures.written c.in_ok-write_count.ensures.written
      c.write_all-2.ensures.written;
}
