use Rattle.abstract_runs.proofs.SureMembers.{sure_one}
use Rattle.abstract_runs.proofs.sureness.has_sure.Goals as goal

pub returns-then-active-k : goal.returns-then-active-k
returns-then-active-k c = λ e vs active. sure_one c.args.active.now c.loop-k.k _ vs c.loop-k-test.true c.if-active-k.true active
