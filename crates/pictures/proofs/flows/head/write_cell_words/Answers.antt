use Rattle.std.proofs.Common.{refl}
use Rattle.std.proofs.Common.{length}
use Rattle.pram_model.specs.Layout.{total_size}
use Rattle.svg_texts.specs.Shapes.{words_text}
use Rattle.pictures.specs.Flows.Picture.{cells_words, only_words}
use Rattle.text_out.proofs.Progress.{breaks_off, closes, goes_on, starts}
use Rattle.pictures.proofs.flows.head.write_cell_words.Goals as goal

pub returns-in_err-write_cells : goal.returns-in_err-write_cells
returns-in_err-write_cells g c =
    let part1 = words_text (cells_words (total_size c.args.layout.now) c.args.rows c.args.found) in
    let part2 = words_text (only_words c.args.only.now (length c.args.layout.now)) in
    record {
      written = breaks_off _ _ _ _ _ part1 part2 c.from_residual.result _ c.from_residual.ensures.1 (starts _ _) refl
          c.in_err-write_cells.ensures.written;
    }

pub returns : goal.returns
returns g c =
    let part1 = words_text (cells_words (total_size c.args.layout.now) c.args.rows c.args.found) in
    let part2 = words_text (only_words c.args.only.now (length c.args.layout.now)) in
    let after1 = goes_on _ _ _ _ _ part1 part2 (starts _ _) refl c.in_ok-write_cells.ensures.written in
    record {
      written = closes _ _ _ _ _ c.write_only.result after1 c.write_only.ensures.written;
    }
