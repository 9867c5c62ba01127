use Rattle.std.proofs.Common.{◌++◌, codes, refl}
use Rattle.text_out.proofs.Progress.{breaks_off, closes, goes_on, starts}
use Rattle.program_texts.specs.Shown.{cell_text}
use Rattle.comparing.specs.WhoseText.{values_in}
use Rattle.comparing.proofs.whose_text.write_cell_in.Goals as goal

pub returns-in_err-write_cell : goal.returns-in_err-write_cell
returns-in_err-write_cell g c =
    let one = cell_text c.args.layout.now c.args.cell in
    let two = codes " is " in
    let three = values_in c.args.first_name.now c.args.second_name.now c.args.first c.args.second in
    record {
      written = breaks_off _ _ _ _ _ one (two ++ three)
          c.from_residual.result _ c.from_residual.ensures.1 (starts _ _) refl c.in_err-write_cell.ensures.written;
    }

pub returns-in_err-write_all : goal.returns-in_err-write_all
returns-in_err-write_all g c =
    let one = cell_text c.args.layout.now c.args.cell in
    let two = codes " is " in
    let three = values_in c.args.first_name.now c.args.second_name.now c.args.first c.args.second in
    let after_1 = goes_on _ _ _ _ _ one (two ++ three) (starts _ _) refl c.in_ok-write_cell.ensures.written in
    record {
      written = breaks_off _ _ _ _ _ two three
          c.from_residual-in_err-write_all.result _ c.from_residual-in_err-write_all.ensures.1 after_1 refl c.in_err-write_all.ensures.written;
    }

pub returns : goal.returns
returns g c =
    let one = cell_text c.args.layout.now c.args.cell in
    let two = codes " is " in
    let three = values_in c.args.first_name.now c.args.second_name.now c.args.first c.args.second in
    let after_1 = goes_on _ _ _ _ _ one (two ++ three) (starts _ _) refl c.in_ok-write_cell.ensures.written in
    let after_2 = goes_on _ _ _ _ _ two three after_1 refl c.in_ok-write_all.ensures.written in
    record { written = closes _ _ _ _ _ c.write_values_in.result after_2 c.write_values_in.ensures.written }
