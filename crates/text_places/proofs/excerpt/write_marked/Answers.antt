use Rattle.std.proofs.Common.{◌++◌, ap, refl, sym}
use Rattle.text_places.specs.Excerpts as spec
use Rattle.text_places.proofs.Pieces.{both, stops_in_first}
use Rattle.text_places.proofs.excerpt.write_marked.Goals as goal

pub returns-in_err-write_line : goal.returns-in_err-write_line
returns-in_err-write_line g c = record {
  written = stops_in_first _ _ _ _ _ c.from_residual.result _ refl c.from_residual.ensures.1 c.in_err-write_line.ensures.written;
}

pub returns : goal.returns
returns g c = record {
  written = both _ _ _ _ _ _ c.write_caret.result
      (ap (λ l. spec.shown_line c.args.text.now c.args.place.line ++ spec.caret_line l c.args.place.column) (sym c.line_text.ensures))
      c.in_ok-write_line.ensures.written c.write_caret.ensures.written;
}
