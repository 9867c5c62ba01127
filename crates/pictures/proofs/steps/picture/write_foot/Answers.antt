use Rattle.std.proofs.Common.{List, ap, length, map, subst, ◌∙◌, ℕ}
use Rattle.text_out.specs.Out.{Writes}
use Rattle.journal.specs.Entries.{entry_is}
use Rattle.svg_texts.specs.Shapes.{shape_text}
use Rattle.pictures.specs.Steps.Measures.{frame_is}
use Rattle.pictures.specs.Steps.Picture.{ending, first_ending, foot_line}
use Rattle.pictures.proofs.OfSteps.KeptEntries.{end_stands}
use Rattle.pictures.proofs.steps.picture.write_foot.Goals as goal

pub returns : goal.returns
returns g c = record {
  written = λ es h.
      let f = frame_is c.args.frame.now in
      let k = map entry_is c.args.kept.now.entries.items in
      let y = foot_line f (length es) in
      let line = c.foot_line-y.ensures.line ∙ ap (foot_line f) h.counted in
      let shown = ap (λ y. shape_text (ending f.layout y (map entry_is c.as_slice.result.now))) line
      ∙ ap (λ l. shape_text (ending f.layout y (map entry_is l))) c.as_slice.ensures.value
      ∙ ap (λ l. shape_text (first_ending f.layout y l)) (end_stands k es h.stand) in
      subst (λ (t : List ℕ). Writes (g.W.Out.state c.args.out.now) (g.W.Out.state c.write_ending.new.out) t c.write_ending.result)
      shown c.write_ending.ensures.written;
}
