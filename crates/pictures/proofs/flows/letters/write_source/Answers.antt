use Rattle.std.proofs.Common.{refl, ◌++◌}
use Rattle.std.specs.Prelude.{codes}
use Rattle.svg_texts.specs.Shapes.{text_front, words_text}
use Rattle.svg_texts.specs.Letters.{letters}
use Rattle.std.specs.Prelude.{◌+◌, take}
use Rattle.pictures.specs.Looks.{upwards}
use Rattle.pictures.specs.Flows.MarkShapes.{source_cut}
use Rattle.text_out.proofs.Progress.{breaks_off, closes, goes_on, starts}
use Rattle.pictures.proofs.flows.letters.write_source.Goals as goal

pub returns-in_err-open_text : goal.returns-in_err-open_text
returns-in_err-open_text g c =
    let part1 = text_front (c.args.x + 4) 250 upwards in
    let part2 = letters (take 24 c.args.source.now) ++ words_text (source_cut c.args.source.now) in
    let part3 = codes "</text>\n" in
    record {
      written = breaks_off _ _ _ _ _ part1 (part2 ++ part3) c.from_residual.result _ c.from_residual.ensures.1 (starts _ _) refl
          c.in_err-open_text.ensures.written;
    }

pub returns-in_err-write_source_words : goal.returns-in_err-write_source_words
returns-in_err-write_source_words g c =
    let part1 = text_front (c.args.x + 4) 250 upwards in
    let part2 = letters (take 24 c.args.source.now) ++ words_text (source_cut c.args.source.now) in
    let part3 = codes "</text>\n" in
    let after1 = goes_on _ _ _ _ _ part1 (part2 ++ part3) (starts _ _) refl c.in_ok-open_text.ensures.written in
    record {
      written = breaks_off _ _ _ _ _ part2 part3 c.from_residual-in_err-write_source_words.result _
          c.from_residual-in_err-write_source_words.ensures.1 after1 refl c.in_err-write_source_words.ensures.written;
    }

pub returns : goal.returns
returns g c =
    let part1 = text_front (c.args.x + 4) 250 upwards in
    let part2 = letters (take 24 c.args.source.now) ++ words_text (source_cut c.args.source.now) in
    let part3 = codes "</text>\n" in
    let after1 = goes_on _ _ _ _ _ part1 (part2 ++ part3) (starts _ _) refl c.in_ok-open_text.ensures.written in
    let after2 = goes_on _ _ _ _ _ part2 part3 after1 refl c.in_ok-write_source_words.ensures.written in
    record {
      written = closes _ _ _ _ _ c.close_text.result after2 c.close_text.ensures.written;
    }
