use Rattle.std.proofs.Common.{refl}
use Rattle.text_places.proofs.Pieces.{both, stops_in_first}
use Rattle.help.proofs.gnu.write_sentence.Goals as goal

pub returns-in_err-write_shown : goal.returns-in_err-write_shown
returns-in_err-write_shown g c = record {
  written = stops_in_first _ _ _ _ _ c.from_residual.result _ (refl) c.from_residual.ensures.1 c.in_err-write_shown.ensures.written;
}

pub returns : goal.returns
returns g c = record {
  written = both _ _ _ _ _ _ c.write_coded.result (refl) c.in_ok-write_shown.ensures.written
      c.write_coded.ensures.written;
}
