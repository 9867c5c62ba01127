use Rattle.std.proofs.Common.{refl}
use Rattle.text_places.proofs.Pieces.{both, stops_in_first}
use Rattle.pages.proofs.page.write_rest.Goals as goal

pub returns-in_err-write_both : goal.returns-in_err-write_both
returns-in_err-write_both g c = record {
  written = stops_in_first _ _ _ _ _ c.from_residual.result _ refl c.from_residual.ensures.1 c.in_err-write_both.ensures.written;
}

pub returns : goal.returns
returns g c = record { written = both _ _ _ _ _ _ c.write_back.result refl c.in_ok-write_both.ensures.written c.write_back.ensures.written }
