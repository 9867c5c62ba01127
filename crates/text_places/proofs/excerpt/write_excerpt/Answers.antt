use Rattle.std.proofs.Common.{◌++◌, ap, sym}
use Rattle.text_places.specs.Excerpts as spec
use Rattle.text_places.proofs.Pieces.{both, stops_in_first}
use Rattle.text_places.proofs.excerpt.write_excerpt.Goals as goal

pub returns-in_err-write_place : goal.returns-in_err-write_place
returns-in_err-write_place g c = record {
  written = stops_in_first _ _ _ _ _ c.from_residual.result _
      (ap (λ p. spec.place_line c.args.name.now p ++ spec.marked_line c.args.text.now p) (sym c.place_of-place.ensures.value))
      c.from_residual.ensures.1 c.in_err-write_place.ensures.written;
}

pub returns : goal.returns
returns g c = record {
  written = both _ _ _ _ _ _ c.write_marked.result
      (ap (λ p. spec.place_line c.args.name.now p ++ spec.marked_line c.args.text.now p) (sym c.place_of-place.ensures.value))
      c.in_ok-write_place.ensures.written c.write_marked.ensures.written;
}
