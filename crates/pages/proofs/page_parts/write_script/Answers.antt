use Rattle.std.proofs.Common.{refl}
use Rattle.text_places.proofs.Pieces.{both, stops_in_first}
use Rattle.pages.proofs.page_parts.write_script.Goals as goal

pub returns-in_err-write_earlier : goal.returns-in_err-write_earlier
returns-in_err-write_earlier g c = record {
  written = stops_in_first _ _ _ _ _ c.from_residual.result _ refl c.from_residual.ensures.1 c.in_err-write_earlier.ensures.written;
}

pub returns : goal.returns
returns g c = record {
  written = both _ _ _ _ _ _ c.write_later.result refl c.in_ok-write_earlier.ensures.written
      c.write_later.ensures.written;
}
