use Rattle.std.proofs.Common.{◌<◌, arith, codes, length}
use Rattle.std.proofs.lemmas.Grind.{common_steps}
use Rattle.svg_texts.specs.Shapes.{words_text}
use Rattle.pictures.specs.Steps.Marks.{cells_words}
use Rattle.pictures.proofs.OfSteps.MarkTexts.{some_read}
use Rattle.text_out.proofs.Progress.{breaks_off, closes, goes_on, starts}
use Rattle.pictures.proofs.steps.marks.write_reads.Goals as goal

pub returns-in_err-write_all : goal.returns-in_err-write_all
returns-in_err-write_all g c =
    let some : 0 < length c.args.cells.now = grind (arith, common_steps) in
    let part1 = codes " reads" in
    let part2 = words_text (cells_words c.args.layout.now c.args.cells.now) in
    record {
      written = breaks_off _ _ _ _ _ part1 part2 c.from_residual.result _ c.from_residual.ensures.1 (starts _ _) (some_read
          c.args.layout.now c.args.cells.now some) c.in_err-write_all.ensures.written;
    }

pub returns : goal.returns
returns g c =
    let some : 0 < length c.args.cells.now = grind (arith, common_steps) in
    let part1 = codes " reads" in
    let part2 = words_text (cells_words c.args.layout.now c.args.cells.now) in
    let after1 = goes_on _ _ _ _ _ part1 part2 (starts _ _) (some_read c.args.layout.now c.args.cells.now some)
    c.in_ok-write_all.ensures.written in
    record {
      written = closes _ _ _ _ _ c.write_cells.result after1 c.write_cells.ensures.written;
    }
