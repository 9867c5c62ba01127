use Rattle.std.proofs.Common.{List, ap, map, subst, ◌∙◌, ℕ}
use Rattle.text_out.specs.Out.{Writes}
use Rattle.journal.specs.Entries.{entry_is}
use Rattle.svg_texts.specs.Shapes.{picture_text}
use Rattle.pictures.specs.Steps.Drawn.{rows_of}
use Rattle.pictures.specs.Steps.Measures.{letters_of}
use Rattle.pictures.specs.Steps.Picture.{picture_of}
use Rattle.pictures.proofs.OfSteps.KeptEntries.{letters_stand, rows_stand}
use Rattle.pictures.proofs.steps.picture.write_part.Goals as goal

pub returns : goal.returns
returns g c = record {
  written = λ es h.
      let k = map entry_is c.args.kept.now.entries.items in
      let text = c.args.text.now in
      let there = c.as_slice-entries.ensures.value in
      let rows = c.as_slice.ensures.value ∙ c.rows_of-rows.ensures.rows ∙ ap (λ l. rows_of (map entry_is l)) there
      ∙ rows_stand k es h.stand in
      let letters = c.letters_of-letters.ensures.letters ∙ ap (λ l. letters_of text (map entry_is l)) there
      ∙ letters_stand k es h.stand text in
      subst (λ (t : List ℕ). Writes (g.W.Out.state c.args.out.now) (g.W.Out.state c.write_framed.new.out) t c.write_framed.result)
      (λ i. picture_text (picture_of (record {
        layout = c.args.layout.now;
        text = text;
        rows = rows i;
        letters = letters i;
        part = c.args.part;
      }) es))
      (c.write_framed.ensures.written es h);
}
