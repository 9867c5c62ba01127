use Rattle.std.proofs.Common.{◌≡◌, ◌++◌}
use Rattle.flat_machine.specs.ByInstructions.{everywhere}
use Rattle.flat_machine.specs.Exchanges.{exchanges_from}
use Rattle.flat_run.specs.RunViews.{state_of, IsRun}
use Rattle.flat_run.specs.Exchanged.{exchanges_are}
use Rattle.flat_run.proofs.followed.follow.Given as goal

-- what is noted, and what is to come, are all exchanges of the run
abbrev pub invariant-instructions : goal.invariant-instructions
invariant-instructions l = record {
  run : IsRun l.code l.bound l.run;
  noted : exchanges_are l.all.items ++ exchanges_from l.code l.bound everywhere l.left (state_of l.run)
      ≡ exchanges_from l.code l.bound everywhere l.most (state_of l.fn.run);
}

abbrev pub decreases-instructions : goal.decreases-instructions
decreases-instructions l = l.left
