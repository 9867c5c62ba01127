use Rattle.std.proofs.Common.{◌++◌, ap, codes, map, sym}
use Rattle.text_places.specs.Excerpts as spec
use Rattle.text_places.proofs.Pieces.{both, stops_in_first}
use Rattle.text_places.proofs.excerpt.write_caret.Goals as goal

pub returns-in_err-write_blanks : goal.returns-in_err-write_blanks
returns-in_err-write_blanks g c = record {
  written = stops_in_first _ _ _ _ _ c.from_residual.result _ (ap (λ l. map spec.blank_byte l ++ codes "^\n") (sym c.front.ensures))
      c.from_residual.ensures.1 c.in_err-write_blanks.ensures.written;
}

pub returns : goal.returns
returns g c = record {
  written = both _ _ _ _ _ _ c.write_all.result (ap (λ l. map spec.blank_byte l ++ codes "^\n") (sym c.front.ensures))
      c.in_ok-write_blanks.ensures.written c.write_all.ensures.written;
}
