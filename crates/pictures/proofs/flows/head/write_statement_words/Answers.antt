use Rattle.std.proofs.Common.{refl, ◌++◌}
use Rattle.svg_texts.specs.Shapes.{words_text}
use Rattle.pictures.specs.Flows.Picture.{range_words, statement_cut, statements_words}
use Rattle.text_out.proofs.Progress.{breaks_off, closes, goes_on, starts}
use Rattle.pictures.proofs.flows.head.write_statement_words.Goals as goal

pub returns-in_err-write_statements : goal.returns-in_err-write_statements
returns-in_err-write_statements g c =
    let part1 = words_text (statements_words c.args.statements c.args.columns) in
    let part2 = words_text (range_words c.args.from c.args.to c.args.statements) in
    let part3 = words_text (statement_cut c.args.columns c.args.touching) in
    record {
      written = breaks_off _ _ _ _ _ part1 (part2 ++ part3) c.from_residual.result _ c.from_residual.ensures.1 (starts _ _) refl
          c.in_err-write_statements.ensures.written;
    }

pub returns-in_err-write_range : goal.returns-in_err-write_range
returns-in_err-write_range g c =
    let part1 = words_text (statements_words c.args.statements c.args.columns) in
    let part2 = words_text (range_words c.args.from c.args.to c.args.statements) in
    let part3 = words_text (statement_cut c.args.columns c.args.touching) in
    let after1 = goes_on _ _ _ _ _ part1 (part2 ++ part3) (starts _ _) refl c.in_ok-write_statements.ensures.written in
    record {
      written = breaks_off _ _ _ _ _ part2 part3 c.from_residual-in_err-write_range.result _ c.from_residual-in_err-write_range.ensures.1
          after1 refl c.in_err-write_range.ensures.written;
    }

pub returns : goal.returns
returns g c =
    let part1 = words_text (statements_words c.args.statements c.args.columns) in
    let part2 = words_text (range_words c.args.from c.args.to c.args.statements) in
    let part3 = words_text (statement_cut c.args.columns c.args.touching) in
    let after1 = goes_on _ _ _ _ _ part1 (part2 ++ part3) (starts _ _) refl c.in_ok-write_statements.ensures.written in
    let after2 = goes_on _ _ _ _ _ part2 part3 after1 refl c.in_ok-write_range.ensures.written in
    record {
      written = closes _ _ _ _ _ c.write_statement_cut.result after2 c.write_statement_cut.ensures.written;
    }
