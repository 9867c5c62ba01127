use Rattle.std.proofs.Common.{refl}
use Rattle.std.specs.Prelude.{codes}
use Rattle.svg_texts.specs.Letters.{letters}
use Rattle.svg_texts.specs.Plain.{numbered}
use Rattle.svg_texts.specs.Shapes.{words_text}
use Rattle.text_out.proofs.Progress.{breaks_off, closes, goes_on, starts}
use Rattle.pictures.proofs.sizes.picture.write_first_words.Goals as goal

pub returns-in_err-write_numbered : goal.returns-in_err-write_numbered
returns-in_err-write_numbered g c =
    let part1 = words_text (numbered (codes "64 of ") c.args.count) in
    let part2 = letters (codes " sizes") in
    record {
      written = breaks_off _ _ _ _ _ part1 part2 c.from_residual.result _ c.from_residual.ensures.1 (starts _ _) refl
          c.in_err-write_numbered.ensures.written;
    }

pub returns : goal.returns
returns g c =
    let part1 = words_text (numbered (codes "64 of ") c.args.count) in
    let part2 = letters (codes " sizes") in
    let after1 = goes_on _ _ _ _ _ part1 part2 (starts _ _) refl c.in_ok-write_numbered.ensures.written in
    record {
      written = closes _ _ _ _ _ c.write_letters.result after1 c.write_letters.ensures.written;
    }
