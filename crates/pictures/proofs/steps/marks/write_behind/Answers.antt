use Rattle.std.proofs.Common.{refl}
use Rattle.std.specs.Prelude.{codes}
use Rattle.svg_texts.specs.Letters.{letters}
use Rattle.program_texts.specs.Shown.{cell_text}
use Rattle.text_out.proofs.Progress.{breaks_off, closes, goes_on, starts}
use Rattle.pictures.proofs.steps.marks.write_behind.Goals as goal

pub returns-in_err-write_all : goal.returns-in_err-write_all
returns-in_err-write_all g c =
    let part1 = codes " " in
    let part2 = letters (cell_text c.args.layout.now c.args.cell) in
    record {
      written = breaks_off _ _ _ _ _ part1 part2 c.from_residual.result _ c.from_residual.ensures.1 (starts _ _) refl
          c.in_err-write_all.ensures.written;
    }

pub returns : goal.returns
returns g c =
    let part1 = codes " " in
    let part2 = letters (cell_text c.args.layout.now c.args.cell) in
    let after1 = goes_on _ _ _ _ _ part1 part2 (starts _ _) refl c.in_ok-write_all.ensures.written in
    record {
      written = closes _ _ _ _ _ c.write_cell_letters.result after1 c.write_cell_letters.ensures.written;
    }
