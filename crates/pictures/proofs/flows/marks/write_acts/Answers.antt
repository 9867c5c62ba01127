use Rattle.std.proofs.Common.{refl, ◌++◌}
use Rattle.std.specs.Prelude.{map}
use Rattle.journal.specs.Entries.{act_is}
use Rattle.svg_texts.specs.Shapes.{shape_text}
use Rattle.pictures.specs.Flows.Marks.{arrows, nodes, readings, value_in}
use Rattle.pictures.specs.Flows.MarkShapes.{arrow_shape, each, node_shape, reading_shape}
use Rattle.text_out.proofs.Progress.{breaks_off, closes, goes_on, starts}
use Rattle.pictures.proofs.flows.marks.write_acts.Goals as goal

pub returns-in_err-write_arrows : goal.returns-in_err-write_arrows
returns-in_err-write_arrows g c =
    let part1 = shape_text (each (arrow_shape c.args.rows.now) (arrows c.args.rows.now c.args.column c.args.aside.now (map act_is
    c.args.acts.now))) in
    let part2 = shape_text (each (node_shape c.args.rows.now) (nodes c.args.rows.now c.args.column (value_in (map act_is c.args.acts.now)
    c.args.written.now) (map act_is c.args.acts.now))) in
    let part3 = shape_text (each (reading_shape c.args.rows.now) (readings c.args.rows.now c.args.column (map act_is c.args.acts.now))) in
    record {
      written = breaks_off _ _ _ _ _ part1 (part2 ++ part3) c.from_residual.result _ c.from_residual.ensures.1 (starts _ _) refl
          c.in_err-write_arrows.ensures.written;
    }

pub returns-in_err-write_nodes : goal.returns-in_err-write_nodes
returns-in_err-write_nodes g c =
    let part1 = shape_text (each (arrow_shape c.args.rows.now) (arrows c.args.rows.now c.args.column c.args.aside.now (map act_is
    c.args.acts.now))) in
    let part2 = shape_text (each (node_shape c.args.rows.now) (nodes c.args.rows.now c.args.column (value_in (map act_is c.args.acts.now)
    c.args.written.now) (map act_is c.args.acts.now))) in
    let part3 = shape_text (each (reading_shape c.args.rows.now) (readings c.args.rows.now c.args.column (map act_is c.args.acts.now))) in
    let after1 = goes_on _ _ _ _ _ part1 (part2 ++ part3) (starts _ _) refl c.in_ok-write_arrows.ensures.written in
    record {
      written = breaks_off _ _ _ _ _ part2 part3 c.from_residual-in_err-write_nodes.result _ c.from_residual-in_err-write_nodes.ensures.1
          after1 refl c.in_err-write_nodes.ensures.written;
    }

pub returns : goal.returns
returns g c =
    let part1 = shape_text (each (arrow_shape c.args.rows.now) (arrows c.args.rows.now c.args.column c.args.aside.now (map act_is
    c.args.acts.now))) in
    let part2 = shape_text (each (node_shape c.args.rows.now) (nodes c.args.rows.now c.args.column (value_in (map act_is c.args.acts.now)
    c.args.written.now) (map act_is c.args.acts.now))) in
    let part3 = shape_text (each (reading_shape c.args.rows.now) (readings c.args.rows.now c.args.column (map act_is c.args.acts.now))) in
    let after1 = goes_on _ _ _ _ _ part1 (part2 ++ part3) (starts _ _) refl c.in_ok-write_arrows.ensures.written in
    let after2 = goes_on _ _ _ _ _ part2 part3 after1 refl c.in_ok-write_nodes.ensures.written in
    record {
      written = closes _ _ _ _ _ c.write_readings.result after2 c.write_readings.ensures.written;
    }
