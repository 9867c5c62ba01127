use Rattle.std.proofs.Common.{◌+◌, arith, tests}
use Rattle.abstract_runs.proofs.Begun.{counted_leads}
use Rattle.abstract_runs.proofs.survey.Survey.begin.Goals as goal

pub returns-then-known-bound-clause-leads : goal.returns-then-known-bound-clause-leads
returns-then-known-bound-clause-leads c = λ m h.
    let most = h.most in
    counted_leads c.args.known.now (c.args.known.now.least + 1) (c.args.known.now.most + 1) c.args.self.now.bound
    c.note_bound_if.new.self m h (omega arith) (λ below. omega arith) (λ at. c.note_bound_if.ensures.noted (grind (arith, tests, at)))

pub returns-else-known-bound-clause-leads : goal.returns-else-known-bound-clause-leads
returns-else-known-bound-clause-leads c = λ m h.
    let most = h.most in
    let room = c.if-known-bound.false in
    counted_leads c.args.known.now (c.args.known.now.least + 1) c.args.known.now.most c.args.self.now.bound c.note_bound_if.new.self m h
    (omega arith) (λ below. grind (arith, tests, below, room)) (λ at. c.note_bound_if.ensures.noted (grind (arith, tests, at)))
