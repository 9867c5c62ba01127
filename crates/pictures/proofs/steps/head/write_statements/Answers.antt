use Rattle.std.proofs.Common.{refl}
use Rattle.svg_texts.specs.Shapes.{words_text}
use Rattle.pictures.specs.Steps.Picture.{rest_words, statements_front}
use Rattle.text_out.proofs.Progress.{breaks_off, closes, goes_on, starts}
use Rattle.pictures.proofs.steps.head.write_statements.Goals as goal

pub returns-in_err-write_statements_front : goal.returns-in_err-write_statements_front
returns-in_err-write_statements_front g c =
    let part1 = words_text (statements_front c.args.part c.args.statements) in
    let part2 = words_text (rest_words c.args.part c.args.statements) in
    record {
      written = breaks_off _ _ _ _ _ part1 part2 c.from_residual.result _ c.from_residual.ensures.1 (starts _ _) refl
          c.in_err-write_statements_front.ensures.written;
    }

pub returns : goal.returns
returns g c =
    let part1 = words_text (statements_front c.args.part c.args.statements) in
    let part2 = words_text (rest_words c.args.part c.args.statements) in
    let after1 = goes_on _ _ _ _ _ part1 part2 (starts _ _) refl c.in_ok-write_statements_front.ensures.written in
    record {
      written = closes _ _ _ _ _ c.write_rest.result after1 c.write_rest.ensures.written;
    }
