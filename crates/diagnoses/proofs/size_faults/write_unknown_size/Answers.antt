use Rattle.std.proofs.Common.{◌++◌, ap, refl, sym}
use Rattle.text_places.proofs.Pieces.{both, stops_in_first}
use Rattle.diagnoses.specs.Places.{quoted}
use Rattle.diagnoses.proofs.size_faults.write_unknown_size.Goals as goal

pub returns-in_err-write_quoted : goal.returns-in_err-write_quoted
returns-in_err-write_quoted g c = record {
  written = stops_in_first _ _ _ _ _ c.from_residual.result _ (refl) c.from_residual.ensures.1 c.in_err-write_quoted.ensures.written;
}

pub returns : goal.returns
returns g c = record {
  written = both _ _ _ _ _ _ c.write_all.result (ap (λ t. quoted c.args.word.now ++ t) (sym c.no_size.ensures))
      c.in_ok-write_quoted.ensures.written c.write_all.ensures.written;
}
