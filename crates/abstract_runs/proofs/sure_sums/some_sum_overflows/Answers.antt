use Rattle.std.proofs.Common.{subst}
use Rattle.abstract_runs.specs.Sure.{WritesSurely}
use Rattle.abstract_runs.proofs.SureSums.{sum_faults}
use Rattle.abstract_runs.proofs.sure_sums.some_sum_overflows.Goals as goal

pub returns-in-Some : goal.returns-in-Some
returns-in-Some c = λ e faults xs parts none.
    sum_faults c.in-Some.c _ faults c.args.rows.now c.loop-k.k c.index-rows-k.result xs c.loop-k-test.true
    (subst (WritesSurely c.in-Some.c _) c.index-rows-k.is c.in-Some.ensures) (c.never_fits.ensures e) parts none
