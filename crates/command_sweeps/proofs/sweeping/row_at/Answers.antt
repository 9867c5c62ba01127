use Rattle.std.proofs.Common.{refl}
use Rattle.command_sweeps.proofs.sweeping.row_at.Goals as goal

pub returns-clause-row : goal.returns-clause-row
returns-clause-row g c = record {
  sized = refl;
  at = c.in_ok-at.at;
  is_at = c.in_ok-at.ensures;
  out = c.in_ok-ending.ensures.out;
}
