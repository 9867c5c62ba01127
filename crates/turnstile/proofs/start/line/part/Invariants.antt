use Rattle.std.proofs.Common.{◌≡◌, ◌≤◌, [], false, vec_capacity}
use Rattle.turnstile.specs.declared.start.told.Told.TheVariants.{Nothing}
use Rattle.turnstile.specs.Lines.{starter}
use Rattle.turnstile.specs.Runners.{AreNewRunners}
use Rattle.turnstile.proofs.start.line.part.Given as goal

abbrev pub invariant-loop-at : goal.invariant-loop-at
invariant-loop-at g l = record {
  made : AreNewRunners l.initial.chair.table_id l.at l.all.items;
  fits : l.runners ≤ vec_capacity l.all;
  table : l.chair.table_id ≡ l.initial.chair.table_id;
  id : l.chair.id ≡ l.initial.chair.id;
  root : l.chair.me ≡ (starter l.at false Nothing [], []);
}
