use Rattle.std.proofs.Common.{refl}
use Rattle.text_places.proofs.Pieces.{both, stops_in_first}
use Rattle.diagnoses.proofs.fault_text.write_fault_sentence.Goals as goal

pub returns-in_err-write_prefix : goal.returns-in_err-write_prefix
returns-in_err-write_prefix g c = record {
  written = stops_in_first _ _ _ _ _ c.from_residual.result _ (refl) c.from_residual.ensures.1 c.in_err-write_prefix.ensures.written;
}

pub returns : goal.returns
returns g c = record {
  written = both _ _ _ _ _ _ c.write_known.result
      (refl) c.in_ok-write_prefix.ensures.written c.write_known.ensures.written;
}
