use Rattle.std.proofs.Common.{refl}
use Rattle.text_places.proofs.Pieces.{both, stops_in_first}
use Rattle.help.proofs.gnu.write_spaced.Goals as goal

pub returns-in_err-write_point : goal.returns-in_err-write_point
returns-in_err-write_point g c = record {
  written = stops_in_first _ _ _ _ _ c.from_residual.result _ (refl) c.from_residual.ensures.1 c.in_err-write_point.ensures.written;
}

pub returns : goal.returns
returns g c = record {
  written = both _ _ _ _ _ _ c.write_all.result (refl) c.in_ok-write_point.ensures.written
      c.write_all.ensures.written;
}
