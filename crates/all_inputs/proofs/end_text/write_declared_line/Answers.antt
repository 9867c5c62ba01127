use Rattle.all_inputs.proofs.Parts.{four_parts, stopped_in_first, stopped_in_second, stopped_in_third}
use Rattle.all_inputs.proofs.end_text.write_declared_line.Goals as goal

pub returns-in_err-write_named : goal.returns-in_err-write_named
returns-in_err-write_named g c = record {
  written = stopped_in_first _ _ _ _ _ _ c.from_residual.ensures.1 c.in_err-write_named.ensures.written;
}

pub returns-in_err-write_all : goal.returns-in_err-write_all
returns-in_err-write_all g c = record {
  written = stopped_in_second _ _ _ _ _ _ _ _ c.in_ok-write_named.ensures.written c.from_residual-in_err-write_all.ensures.1
      c.in_err-write_all.ensures.written;
}

pub returns-in_err-write_ends : goal.returns-in_err-write_ends
returns-in_err-write_ends g c = record {
  written = stopped_in_third _ _ _ _ _ _ _ _ _ _ c.in_ok-write_named.ensures.written c.in_ok-write_all.ensures.written
      c.from_residual-in_err-write_ends.ensures.1 c.in_err-write_ends.ensures.written;
}

pub returns : goal.returns
returns g c = record {
  written = four_parts _ _ _ _ _ _ _ _ _ _ c.in_ok-write_named.ensures.written c.in_ok-write_all.ensures.written
      c.in_ok-write_ends.ensures.written c.write_all-2.ensures.written;
}
