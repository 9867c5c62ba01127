use Rattle.std.proofs.Common.{get_or, subst}
use Rattle.abstract_runs.specs.Sure.{Clash}
use Rattle.abstract_runs.proofs.SureFaults.{clash_faults}
use Rattle.abstract_runs.proofs.sure_faults.some_clash.Goals as goal

pub returns-then-clash : goal.returns-then-clash
returns-then-clash c = λ e faults xs parts none.
    let j = c.in-Some-first_before.j in
    let one = c.index-rows-j.result in
    let two = c.index-rows-k-in-loop-k.result in
    clash_faults c.args.rule faults c.args.rows.now j c.loop-k.k one two xs c.in-Some-first_before.ensures c.loop-k-test.true
    (subst (Clash c.args.rule (get_or c.args.rows.now j one)) c.index-rows-k-in-loop-k.is
    (subst (λ row. Clash c.args.rule row two) c.index-rows-j.is (c.clash.ensures c.if-clash.true))) parts none
