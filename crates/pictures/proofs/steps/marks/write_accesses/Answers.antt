use Rattle.std.proofs.Common.{◌++◌, sym}
use Rattle.journal.specs.Entries.{act_is}
use Rattle.svg_texts.specs.Shapes.{words_text}
use Rattle.pictures.specs.Steps.Marks.{reads_words, write_words}
use Rattle.text_out.proofs.Progress.{breaks_off, closes, goes_on, starts}
use Rattle.pictures.proofs.steps.marks.write_accesses.Goals as goal

pub returns-in_err-write_reads : goal.returns-in_err-write_reads
returns-in_err-write_reads g c =
    let part1 = words_text (reads_words c.args.layout.now (act_is c.args.act.now).reads) in
    let part2 = words_text (write_words c.args.layout.now c.args.act.now.write) in
    record {
      written = breaks_off _ _ _ _ _ (_) part2 c.from_residual.result _ c.from_residual.ensures.1 (starts _ _) (λ i. words_text
          (reads_words c.args.layout.now (sym c.deref.ensures.value i)) ++ part2) c.in_err-write_reads.ensures.written;
    }

pub returns : goal.returns
returns g c =
    let part1 = words_text (reads_words c.args.layout.now (act_is c.args.act.now).reads) in
    let part2 = words_text (write_words c.args.layout.now c.args.act.now.write) in
    let after1 = goes_on _ _ _ _ _ (_) part2 (starts _ _) (λ i. words_text (reads_words c.args.layout.now (sym c.deref.ensures.value i))
    ++ part2) c.in_ok-write_reads.ensures.written in
    record {
      written = closes _ _ _ _ _ c.write_write.result after1 c.write_write.ensures.written;
    }
