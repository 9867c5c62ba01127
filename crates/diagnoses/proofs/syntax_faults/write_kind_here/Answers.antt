use Rattle.std.proofs.Common.{refl}
use Rattle.text_places.proofs.Pieces.{both, stops_in_first}
use Rattle.diagnoses.proofs.syntax_faults.write_kind_here.Goals as goal

pub returns-in_err-write_choice : goal.returns-in_err-write_choice
returns-in_err-write_choice g c = record {
  written = stops_in_first _ _ _ _ _ c.from_residual.result _ (refl) c.from_residual.ensures.1 c.in_err-write_choice.ensures.written;
}

pub returns : goal.returns
returns g c = record {
  written = both _ _ _ _ _ _ c.write_all.result (refl) c.in_ok-write_choice.ensures.written
      c.write_all.ensures.written;
}
