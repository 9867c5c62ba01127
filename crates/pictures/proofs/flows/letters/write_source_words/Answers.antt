use Rattle.std.proofs.Common.{refl}
use Rattle.svg_texts.specs.Letters.{letters}
use Rattle.std.specs.Prelude.{take}
use Rattle.svg_texts.specs.Shapes.{words_text}
use Rattle.pictures.specs.Flows.MarkShapes.{source_cut}
use Rattle.text_out.proofs.Progress.{breaks_off, closes, goes_on, starts}
use Rattle.pictures.proofs.flows.letters.write_source_words.Goals as goal

pub returns-in_err-write_shown : goal.returns-in_err-write_shown
returns-in_err-write_shown g c =
    let part1 = letters (take 24 c.args.source.now) in
    let part2 = words_text (source_cut c.args.source.now) in
    record {
      written = breaks_off _ _ _ _ _ part1 part2 c.from_residual.result _ c.from_residual.ensures.1 (starts _ _) refl
          c.in_err-write_shown.ensures.written;
    }

pub returns : goal.returns
returns g c =
    let part1 = letters (take 24 c.args.source.now) in
    let part2 = words_text (source_cut c.args.source.now) in
    let after1 = goes_on _ _ _ _ _ part1 part2 (starts _ _) refl c.in_ok-write_shown.ensures.written in
    record {
      written = closes _ _ _ _ _ c.write_source_cut.result after1 c.write_source_cut.ensures.written;
    }
