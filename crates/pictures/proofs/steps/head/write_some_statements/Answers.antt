use Rattle.std.proofs.Common.{refl}
use Rattle.std.specs.Prelude.{codes}
use Rattle.svg_texts.specs.Shapes.{words_text}
use Rattle.pictures.specs.Steps.Picture.{count_words}
use Rattle.text_out.proofs.Progress.{breaks_off, closes, goes_on, starts}
use Rattle.pictures.proofs.steps.head.write_some_statements.Goals as goal

pub returns-in_err-write_all : goal.returns-in_err-write_all
returns-in_err-write_all g c =
    let part1 = codes "statements " in
    let part2 = words_text (count_words c.args.part c.args.statements) in
    record {
      written = breaks_off _ _ _ _ _ part1 part2 c.from_residual.result _ c.from_residual.ensures.1 (starts _ _) refl
          c.in_err-write_all.ensures.written;
    }

pub returns : goal.returns
returns g c =
    let part1 = codes "statements " in
    let part2 = words_text (count_words c.args.part c.args.statements) in
    let after1 = goes_on _ _ _ _ _ part1 part2 (starts _ _) refl c.in_ok-write_all.ensures.written in
    record {
      written = closes _ _ _ _ _ c.write_count.result after1 c.write_count.ensures.written;
    }
