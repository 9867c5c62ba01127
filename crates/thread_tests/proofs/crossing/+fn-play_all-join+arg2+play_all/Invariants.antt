use Rattle.std.proofs.Common.{◌+◌, ◌*◌, length}
use Rattle.thread_tests.proofs.crossing.+fn-play_all-join+arg2+play_all.Given as goal

abbrev pub decreases-join+arg2 : goal.decreases-join+arg2
decreases-join+arg2 g l = length l.seats.items * 2 + 1

abbrev pub decreases-play_all : goal.decreases-play_all
decreases-play_all g l = length l.seats.items * 2
