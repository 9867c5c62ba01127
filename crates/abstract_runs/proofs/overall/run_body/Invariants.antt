use Rattle.abstract_runs.proofs.Coming.{InBlock}
use Rattle.abstract_runs.proofs.overall.run_body.Given as goal

-- what is left of the body goes on from what is known
abbrev pub invariant-loop-k : goal.invariant-loop-k
invariant-loop-k l = InBlock l.survey.program.now l.survey.bound l.body l.k l.fn.known l.known l.told
