use Rattle.std.proofs.Common.{◌+◌, ◌*◌, length}
use Rattle.thread_tests.proofs.starting.+fn-hear_all-join+arg2+hear_all.Given as goal

abbrev pub decreases-join+arg2 : goal.decreases-join+arg2
decreases-join+arg2 g l = length l.runners.items * 2 + 1

abbrev pub decreases-hear_all : goal.decreases-hear_all
decreases-hear_all g l = length l.runners.items * 2
