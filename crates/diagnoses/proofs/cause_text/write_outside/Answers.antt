use Rattle.std.proofs.Common.{refl}
use Rattle.text_places.proofs.Pieces.{both, stops_in_first}
use Rattle.diagnoses.proofs.cause_text.write_outside.Goals as goal

pub returns-in_err-write_named : goal.returns-in_err-write_named
returns-in_err-write_named g c = record {
  written = stops_in_first _ _ _ _ _ c.from_residual.result _ (refl) c.from_residual.ensures.1 c.in_err-write_named.ensures.written;
}

pub returns : goal.returns
returns g c = record {
  written = both _ _ _ _ _ _ c.write_bounds.result
      (refl) c.in_ok-write_named.ensures.written c.write_bounds.ensures.written;
}
