use Rattle.std.proofs.Common.{◌≡◌, ◌++◌}
use Rattle.exchange_lines.specs.Lines.{lines_within}
use Rattle.flat_run.specs.RunViews.{state_of, IsRun}
use Rattle.flat_run.proofs.lined.follow.Given as goal

-- what is noted, and what is to come, are all lines of the run
abbrev pub invariant-instructions : goal.invariant-instructions
invariant-instructions l = record {
  run : IsRun l.code l.bound l.run;
  noted : l.all.items ++ lines_within l.code l.bound l.left (state_of l.run)
      ≡ lines_within l.code l.bound l.most (state_of l.fn.run);
}

abbrev pub decreases-instructions : goal.decreases-instructions
decreases-instructions l = l.left
