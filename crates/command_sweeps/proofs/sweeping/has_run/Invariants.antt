use Rattle.std.proofs.Common.{◌≡◌, drop}
use Rattle.std.specs.List.{list_any}
use Rattle.command_sweeps.specs.Sweeps.{is_run}
use Rattle.command_sweeps.proofs.sweeping.has_run.Given as goal

abbrev pub invariant-loop-row : goal.invariant-loop-row
invariant-loop-row l = list_any (λ r. is_run r.ending) (drop l.row-index l.rows) ≡ list_any (λ r. is_run r.ending) l.rows
