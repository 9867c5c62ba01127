use Rattle.std.proofs.Common.{refl}
use Rattle.text_places.proofs.Pieces.{both, stops_in_first}
use Rattle.diagnoses.proofs.cause_text.write_first.Goals as goal

pub returns-in_err-write_one : goal.returns-in_err-write_one
returns-in_err-write_one g c = record {
  written = stops_in_first _ _ _ _ _ c.from_residual.result _ (refl) c.from_residual.ensures.1 c.in_err-write_one.ensures.written;
}

pub returns : goal.returns
returns g c = record {
  written = both _ _ _ _ _ _ c.write_others.result
      (refl) c.in_ok-write_one.ensures.written c.write_others.ensures.written;
}
