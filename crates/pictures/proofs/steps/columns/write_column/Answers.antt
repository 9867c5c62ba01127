use Rattle.std.proofs.Common.{◌++◌, sym}
use Rattle.std.proofs.Common.{map}
use Rattle.journal.specs.Entries.{act_is, entry_is}
use Rattle.svg_texts.specs.Shapes.{shape_text}
use Rattle.pictures.specs.Steps.Columns.{heading, processors}
use Rattle.pictures.specs.Acts.{acts_in}
use Rattle.pictures.specs.Steps.Drawn.{met_in}
use Rattle.pictures.specs.Steps.Measures.{column_is}
use Rattle.pictures.specs.Steps.ProgramLines.{line_of}
use Rattle.text_out.proofs.Progress.{breaks_off, closes, goes_on, starts}
use Rattle.pictures.proofs.steps.columns.write_column.Goals as goal

pub returns-in_err-write_heading : goal.returns-in_err-write_heading
returns-in_err-write_heading g c =
    let part1 = shape_text (heading c.args.frame.now.text.now (column_is c.args.at) (line_of (entry_is c.args.entry.now))) in
    let part2 = shape_text (processors c.args.frame.now.layout.now c.args.frame.now.rows.now (column_is c.args.at) (acts_in (entry_is
    c.args.entry.now)) (met_in (entry_is c.args.entry.now))) in
    record {
      written = breaks_off _ _ _ _ _ (_) part2 c.from_residual.result _ c.from_residual.ensures.1 (starts _ _) (λ i. shape_text (heading
          c.args.frame.now.text.now (column_is c.args.at) (sym c.line_of.ensures i)) ++ part2) c.in_err-write_heading.ensures.written;
    }

pub returns : goal.returns
returns g c =
    let part1 = shape_text (heading c.args.frame.now.text.now (column_is c.args.at) (line_of (entry_is c.args.entry.now))) in
    let part2 = shape_text (processors c.args.frame.now.layout.now c.args.frame.now.rows.now (column_is c.args.at) (acts_in (entry_is
    c.args.entry.now)) (met_in (entry_is c.args.entry.now))) in
    let after1 = goes_on _ _ _ _ _ (_) (shape_text (processors c.args.frame.now.layout.now c.args.frame.now.rows.now (column_is c.args.at)
    (map act_is c.acts_in.result.now) c.met_in.result.now)) (starts _ _) (λ i. shape_text (heading c.args.frame.now.text.now
    (column_is c.args.at) (sym c.line_of.ensures i)) ++ shape_text (processors c.args.frame.now.layout.now c.args.frame.now.rows.now
    (column_is c.args.at) (sym c.acts_in.ensures i) (sym c.met_in.ensures i))) c.in_ok-write_heading.ensures.written in
    record {
      written = closes _ _ _ _ _ c.write_processors.result after1 c.write_processors.ensures.written;
    }
