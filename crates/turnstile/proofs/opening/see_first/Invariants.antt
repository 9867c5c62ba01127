use Rattle.std.proofs.Common.{◌≡◌}
use Rattle.turnstile.specs.Works.{Seeing, IsSame, done, rows_of}
use Rattle.turnstile.proofs.opening.see_first.Given as goal

abbrev pub invariant-loop-i : goal.invariant-loop-i
invariant-loop-i l = record {
  same : IsSame l.initial.work l.work;
  rows : rows_of l.work ≡ rows_of l.initial.work;
  blocks : (done l.work).blocks ≡ (done l.initial.work).blocks;
  seeing : Seeing l.i l.work;
}
