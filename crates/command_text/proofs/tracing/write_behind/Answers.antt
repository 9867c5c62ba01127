use Rattle.std.proofs.Common.{refl}
use Rattle.text_places.proofs.Pieces.{both, stops_in_first}
use Rattle.command_text.proofs.tracing.write_behind.Goals as goal

pub returns-in_err-write_cost : goal.returns-in_err-write_cost
returns-in_err-write_cost g c = record {
  written = stops_in_first _ _ _ _ _ c.from_residual.result _ refl c.from_residual.ensures.1 c.in_err-write_cost.ensures.written;
}

pub returns : goal.returns
returns g c = record { written = both _ _ _ _ _ _ c.write_end.result refl c.in_ok-write_cost.ensures.written c.write_end.ensures.written }
