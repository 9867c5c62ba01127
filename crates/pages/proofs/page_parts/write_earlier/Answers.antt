use Rattle.std.proofs.Common.{refl}
use Rattle.text_places.proofs.Pieces.{both, stops_in_first}
use Rattle.pages.proofs.page_parts.write_earlier.Goals as goal

pub returns-in_err-write_reading : goal.returns-in_err-write_reading
returns-in_err-write_reading g c = record {
  written = stops_in_first _ _ _ _ _ c.from_residual.result _ refl c.from_residual.ensures.1 c.in_err-write_reading.ensures.written;
}

pub returns : goal.returns
returns g c = record {
  written = both _ _ _ _ _ _ c.write_drawing.result refl c.in_ok-write_reading.ensures.written
      c.write_drawing.ensures.written;
}
