use Rattle.std.proofs.Common.{refl, ◌++◌}
use Rattle.std.proofs.Common.{map}
use Rattle.journal.specs.Entries.{act_is}
use Rattle.svg_texts.specs.Shapes.{shape_text}
use Rattle.pictures.specs.Steps.Columns.{acts_drawn, all_met, without_row}
use Rattle.pictures.specs.Steps.Measures.{column_is}
use Rattle.text_out.proofs.Progress.{breaks_off, closes, goes_on, starts}
use Rattle.pictures.proofs.steps.columns.write_processors.Goals as goal

pub returns-in_err-write_acts : goal.returns-in_err-write_acts
returns-in_err-write_acts g c =
    let part1 = shape_text (acts_drawn c.args.layout.now c.args.rows.now (column_is c.args.at) (map act_is c.args.acts.now)) in
    let part2 = shape_text (all_met c.args.rows.now (column_is c.args.at) c.args.met.now) in
    let part3 = shape_text (without_row c.args.rows.now (column_is c.args.at) (map act_is c.args.acts.now)) in
    record {
      written = breaks_off _ _ _ _ _ part1 (part2 ++ part3) c.from_residual.result _ c.from_residual.ensures.1 (starts _ _) refl
          c.in_err-write_acts.ensures.written;
    }

pub returns-in_err-write_all_met : goal.returns-in_err-write_all_met
returns-in_err-write_all_met g c =
    let part1 = shape_text (acts_drawn c.args.layout.now c.args.rows.now (column_is c.args.at) (map act_is c.args.acts.now)) in
    let part2 = shape_text (all_met c.args.rows.now (column_is c.args.at) c.args.met.now) in
    let part3 = shape_text (without_row c.args.rows.now (column_is c.args.at) (map act_is c.args.acts.now)) in
    let after1 = goes_on _ _ _ _ _ part1 (part2 ++ part3) (starts _ _) refl c.in_ok-write_acts.ensures.written in
    record {
      written = breaks_off _ _ _ _ _ part2 part3 c.from_residual-in_err-write_all_met.result _
          c.from_residual-in_err-write_all_met.ensures.1 after1 refl c.in_err-write_all_met.ensures.written;
    }

pub returns : goal.returns
returns g c =
    let part1 = shape_text (acts_drawn c.args.layout.now c.args.rows.now (column_is c.args.at) (map act_is c.args.acts.now)) in
    let part2 = shape_text (all_met c.args.rows.now (column_is c.args.at) c.args.met.now) in
    let part3 = shape_text (without_row c.args.rows.now (column_is c.args.at) (map act_is c.args.acts.now)) in
    let after1 = goes_on _ _ _ _ _ part1 (part2 ++ part3) (starts _ _) refl c.in_ok-write_acts.ensures.written in
    let after2 = goes_on _ _ _ _ _ part2 part3 after1 refl c.in_ok-write_all_met.ensures.written in
    record {
      written = closes _ _ _ _ _ c.write_missing.result after2 c.write_missing.ensures.written;
    }
