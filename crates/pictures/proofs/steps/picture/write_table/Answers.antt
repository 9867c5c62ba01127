use Rattle.std.proofs.Common.{◌+◌, ◌++◌, ◌-◌, ◌∙◌, ap, map, sym}
use Rattle.journal.specs.Entries.{entry_is}
use Rattle.svg_texts.specs.Shapes.{shape_text}
use Rattle.pictures.specs.Steps.Bands.{columns_from}
use Rattle.pictures.specs.Steps.Drawn.{first_drawn, last_drawn, last_number}
use Rattle.pictures.specs.Steps.Measures.{frame_is}
use Rattle.pictures.proofs.OfSteps.KeptEntries.{first_stands, last_stands}
use Rattle.text_out.proofs.Progress.{breaks_off, closes, goes_on, starts}
use Rattle.pictures.proofs.steps.picture.write_table.Goals as goal

pub returns-in_err-write_columns : goal.returns-in_err-write_columns
returns-in_err-write_columns g c = record {
  written = λ es h.
      let f = frame_is c.args.frame.now in
      let k = map entry_is c.args.kept.now.entries.items in
      let part2 = shape_text (columns_from f 96 (last_number es) (last_drawn es)) in
      let first = sym (c.first_drawn.ensures.first ∙ ap (λ l. first_drawn (map entry_is l)) c.as_slice-entries.ensures.value
      ∙ first_stands k es h.stand) in
      breaks_off _ _ _ _ _ (_) part2 c.from_residual.result _ c.from_residual.ensures.1 (starts _ _)
      (λ i. shape_text (columns_from f 0 1 (first i)) ++ part2) c.in_err-write_columns.ensures.written;
}

pub returns : goal.returns
returns g c = record {
  written = λ es h.
      let f = frame_is c.args.frame.now in
      let k = map entry_is c.args.kept.now.entries.items in
      let first = sym (c.first_drawn.ensures.first ∙ ap (λ l. first_drawn (map entry_is l)) c.as_slice-entries.ensures.value
      ∙ first_stands k es h.stand) in
      let last = sym (c.last_drawn.ensures.last ∙ ap (λ l. last_drawn (map entry_is l)) c.as_slice-entries.ensures.value
      ∙ last_stands k es h.stand) in
      let number = sym (c.last_number.ensures.number ∙ ap (λ n. (n - 16) + 1) h.counted) in
      let after1 = goes_on _ _ _ _ _ (_) (shape_text (columns_from f 96 c.last_number.result (map entry_is c.last_drawn.result.now)))
      (starts _ _) (λ i. shape_text (columns_from f 0 1 (first i)) ++ shape_text (columns_from f 96 (number i) (last i)))
      c.in_ok-write_columns.ensures.written in
      closes _ _ _ _ _ c.write_columns-2.result after1 c.write_columns-2.ensures.written;
}
