use Rattle.std.proofs.Common.{◌≡◌}
use Rattle.turnstile.proofs.start.runners.hear_until.Given as goal

abbrev pub invariant-loop : goal.invariant-loop
invariant-loop g l = record {
  table : l.chair.table_id ≡ l.initial.chair.table_id;
  me : l.chair.me ≡ l.initial.chair.me;
}
