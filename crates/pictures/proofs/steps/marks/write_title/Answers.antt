use Rattle.std.proofs.Common.{refl}
use Rattle.journal.specs.Entries.{act_is}
use Rattle.svg_texts.specs.Shapes.{words_text}
use Rattle.pictures.specs.Steps.Marks.{accesses_words, who_words}
use Rattle.text_out.proofs.Progress.{breaks_off, closes, goes_on, starts}
use Rattle.pictures.proofs.steps.marks.write_title.Goals as goal

pub returns-in_err-write_who : goal.returns-in_err-write_who
returns-in_err-write_who g c =
    let part1 = words_text (who_words c.args.act.now.processor) in
    let part2 = words_text (accesses_words c.args.layout.now (act_is c.args.act.now)) in
    record {
      written = breaks_off _ _ _ _ _ part1 part2 c.from_residual.result _ c.from_residual.ensures.1 (starts _ _) refl
          c.in_err-write_who.ensures.written;
    }

pub returns : goal.returns
returns g c =
    let part1 = words_text (who_words c.args.act.now.processor) in
    let part2 = words_text (accesses_words c.args.layout.now (act_is c.args.act.now)) in
    let after1 = goes_on _ _ _ _ _ part1 part2 (starts _ _) refl c.in_ok-write_who.ensures.written in
    record {
      written = closes _ _ _ _ _ c.write_accesses.result after1 c.write_accesses.ensures.written;
    }
