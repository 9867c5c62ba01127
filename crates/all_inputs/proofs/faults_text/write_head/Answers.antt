use Rattle.all_inputs.proofs.Parts.{four_parts, stopped_in_first, stopped_in_second, stopped_in_third}
use Rattle.all_inputs.proofs.faults_text.write_head.Goals as goal

pub returns-in_err-write_all : goal.returns-in_err-write_all
returns-in_err-write_all g c = record {
  written = stopped_in_first _ _ _ _ _ _ c.from_residual.ensures.1 c.in_err-write_all.ensures.written;
}

pub returns-in_err-write_all-2 : goal.returns-in_err-write_all-2
returns-in_err-write_all-2 g c = record {
  written = stopped_in_second _ _ _ _ _ _ _ _ c.in_ok-write_all.ensures.written c.from_residual-in_err-write_all-2.ensures.1
      c.in_err-write_all-2.ensures.written;
}

pub returns-in_err-write_kind : goal.returns-in_err-write_kind
returns-in_err-write_kind g c = record {
  written = stopped_in_third _ _ _ _ _ _ _ _ _ _ c.in_ok-write_all.ensures.written c.in_ok-write_all-2.ensures.written
      c.from_residual-in_err-write_kind.ensures.1 c.in_err-write_kind.ensures.written;
}

pub returns : goal.returns
returns g c = record {
  written = four_parts _ _ _ _ _ _ _ _ _ _ c.in_ok-write_all.ensures.written c.in_ok-write_all-2.ensures.written
      c.in_ok-write_kind.ensures.written c.write_line.ensures.written;
}
