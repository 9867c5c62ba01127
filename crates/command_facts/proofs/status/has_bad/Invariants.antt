use Rattle.std.proofs.Common.{◌≡◌, drop}
use Rattle.std.specs.List.{list_any}
use Rattle.command_facts.specs.Statuses.{is_bad}
use Rattle.command_facts.proofs.status.has_bad.Given as goal

abbrev pub invariant-loop-row : goal.invariant-loop-row
invariant-loop-row l = list_any (λ r. is_bad r.ending) (drop l.row-index l.rows) ≡ list_any (λ r. is_bad r.ending) l.rows
