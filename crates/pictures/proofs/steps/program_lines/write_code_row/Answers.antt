use Rattle.std.proofs.Common.{refl, ◌++◌}
use Rattle.std.specs.Prelude.{codes}
use Rattle.svg_texts.specs.Shapes.{text_front, words_text}
use Rattle.pictures.specs.Looks.{upwards}
use Rattle.pictures.specs.Steps.ProgramLines.{cut}
use Rattle.text_out.proofs.Progress.{breaks_off, closes, goes_on, starts}
use Rattle.pictures.proofs.steps.program_lines.write_code_row.Goals as goal

pub returns-in_err-open_code : goal.returns-in_err-open_code
returns-in_err-open_code g c =
    let part1 = text_front c.args.x c.args.y upwards in
    let part2 = words_text (cut c.args.bytes.now) in
    let part3 = codes "</text>\n" in
    record {
      written = breaks_off _ _ _ _ _ part1 (part2 ++ part3) c.from_residual.result _ c.from_residual.ensures.1 (starts _ _) refl
          c.in_err-open_code.ensures.written;
    }

pub returns-in_err-write_cut : goal.returns-in_err-write_cut
returns-in_err-write_cut g c =
    let part1 = text_front c.args.x c.args.y upwards in
    let part2 = words_text (cut c.args.bytes.now) in
    let part3 = codes "</text>\n" in
    let after1 = goes_on _ _ _ _ _ part1 (part2 ++ part3) (starts _ _) refl c.in_ok-open_code.ensures.written in
    record {
      written = breaks_off _ _ _ _ _ part2 part3 c.from_residual-in_err-write_cut.result _ c.from_residual-in_err-write_cut.ensures.1
          after1 refl c.in_err-write_cut.ensures.written;
    }

pub returns : goal.returns
returns g c =
    let part1 = text_front c.args.x c.args.y upwards in
    let part2 = words_text (cut c.args.bytes.now) in
    let part3 = codes "</text>\n" in
    let after1 = goes_on _ _ _ _ _ part1 (part2 ++ part3) (starts _ _) refl c.in_ok-open_code.ensures.written in
    let after2 = goes_on _ _ _ _ _ part2 part3 after1 refl c.in_ok-write_cut.ensures.written in
    record {
      written = closes _ _ _ _ _ c.close_text.result after2 c.close_text.ensures.written;
    }
