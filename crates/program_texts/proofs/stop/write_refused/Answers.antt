use Rattle.std.proofs.Common.{refl}
use Rattle.text_places.proofs.Pieces.{both, stops_in_first}
use Rattle.program_texts.proofs.stop.write_refused.Goals as goal

pub returns-in_err-write_front : goal.returns-in_err-write_front
returns-in_err-write_front g c = record {
  written = stops_in_first _ _ _ _ _ c.from_residual.result _ refl c.from_residual.ensures.1 c.in_err-write_front.ensures.written;
}

pub returns : goal.returns
returns g c = record {
  written = both _ _ _ _ _ _ c.write_place.result refl c.in_ok-write_front.ensures.written c.write_place.ensures.written;
}
