use Rattle.std.proofs.Common.{◌≡◌}
use Rattle.turnstile.specs.Works.{Seeing, IsSame, done, before, rows_of}
use Rattle.turnstile.proofs.steps.see_all.Given as goal

abbrev pub invariant-loop-i : goal.invariant-loop-i
invariant-loop-i g l = IsSame l.initial.work l.work × (before l.work ≡ before l.initial.work) × (rows_of l.work ≡ rows_of l.initial.work)
    × ((done l.work).blocks ≡ (done l.initial.work).blocks) × Seeing l.i l.work
