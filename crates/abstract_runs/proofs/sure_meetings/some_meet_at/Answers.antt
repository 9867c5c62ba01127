use Rattle.std.proofs.Common.{arith, get_or, subst}
use Rattle.abstract_runs.specs.Sure.{Meeting}
use Rattle.abstract_runs.proofs.SureReads.{meeting_by}
use Rattle.abstract_runs.proofs.sure_meetings.some_meet_at.Goals as goal

pub returns-then-meet : goal.returns-then-meet
returns-then-meet c = λ e.
    let before = c.in-Some-first_before.ensures in
    let below = c.loop-k-test.true in
    let j = c.in-Some-first_before.j in
    let one = c.index-rows-j.result in
    let two = c.index-rows-k-in-loop-k.result in
    meeting_by c.args.p c.args.rows.now j c.loop-k.k one two (omega (arith, before, below)) below
    (subst (Meeting c.args.p (get_or c.args.rows.now j one)) c.index-rows-k-in-loop-k.is
    (subst (λ row. Meeting c.args.p row two) c.index-rows-j.is (c.meet.ensures c.if-meet.true)))
