use Rattle.std.proofs.Common.{refl}
use Rattle.text_places.proofs.Pieces.{both, stops_in_first}
use Rattle.diagnoses.proofs.stops.write_with_note.Goals as goal

pub returns-in_err-write_message_about : goal.returns-in_err-write_message_about
returns-in_err-write_message_about g c = record {
  written = stops_in_first _ _ _ _ _ c.from_residual.result _ refl c.from_residual.ensures.1 c.in_err-write_message_about.ensures.written;
}

pub returns : goal.returns
returns g c = record {
  written = both _ _ _ _ _ _ c.write_note_about.result refl c.in_ok-write_message_about.ensures.written
      c.write_note_about.ensures.written;
}
