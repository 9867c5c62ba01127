use Rattle.command_text.proofs.Reporting.{line_cut_off, with_more}
use Rattle.command_text.proofs.explaining.write_in_words.Goals as goal

pub returns-in_err-write_refused_line : goal.returns-in_err-write_refused_line
returns-in_err-write_refused_line g c =
    let h = c.args.halted.now in
    record {
      written = line_cut_off c.args.explains _ h.stop h.about c.wrong_of-wrong.result _ _ c.from_residual.result _ c.wrong_of-wrong.ensures
          c.from_residual.ensures.1 c.in_err-write_refused_line.ensures.written;
    }

pub returns-then-explains : goal.returns-then-explains
returns-then-explains g c =
    let h = c.args.halted.now in
    let w = c.write_behind.ensures.written in
    record {
      written = with_more c.args.explains _ h.stop h.about w.0 _ _ _ c.write_behind.result c.if-explains.true
          c.in_ok-write_refused_line.ensures.written w.1 w.2;
    }
