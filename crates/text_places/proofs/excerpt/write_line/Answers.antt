use Rattle.std.proofs.Common.{[], ◌∷◌, ◌++◌, ◌∙◌, ap, sym}
use Rattle.text_places.specs.Excerpts as spec
use Rattle.text_places.proofs.Pieces.{both, stops_in_first}
use Rattle.text_places.proofs.excerpt.write_line.Goals as goal

pub returns-in_err-write_shown : goal.returns-in_err-write_shown
returns-in_err-write_shown g c = record {
  written = stops_in_first _ _ _ _ _ c.from_residual.result _
      (ap (λ l. spec.shown l ++ 10 ∷ []) (ap spec.without_return (sym c.line_text.ensures) ∙ sym c.without_return.ensures))
      c.from_residual.ensures.1 c.in_err-write_shown.ensures.written;
}

pub returns : goal.returns
returns g c = record {
  written = both _ _ _ _ _ _ c.write_all.result
      (ap (λ l. spec.shown l ++ 10 ∷ []) (ap spec.without_return (sym c.line_text.ensures) ∙ sym c.without_return.ensures))
      c.in_ok-write_shown.ensures.written c.write_all.ensures.written;
}
