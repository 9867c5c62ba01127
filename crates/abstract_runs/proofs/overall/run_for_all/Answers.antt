use Rattle.std.proofs.Common.{None, Some, arith, tests}
use Rattle.abstract_runs.proofs.Outcomes.{told_of, time_of}
use Rattle.abstract_runs.proofs.overall.run_for_all.Goals as goal

pub returns-then-not-branch-clause-told : goal.returns-then-not-branch-clause-told
returns-then-not-branch-clause-told c = λ input verdict h is.
    told_of c.args.program.now c.args.bound input c.run_body.new.told c.run_body.new.known c.in_ok-run_body.field-0 None
    (c.in_ok-run_body.ensures.leads _ (c.in_ok-known.ensures input h))
    (λ m on stands. let off = c.if-not-branch.true in absurd (grind (arith, tests, on, off))) verdict is

pub returns-then-not-branch-clause-time : goal.returns-then-not-branch-clause-time
returns-then-not-branch-clause-time c = λ input m h body few.
    time_of c.args.program.now c.args.bound input c.run_body.new.told c.run_body.new.known c.in_ok-run_body.field-0 None
    (c.in_ok-run_body.ensures.leads _ (c.in_ok-known.ensures input h))
    (λ m on stands. let off = c.if-not-branch.true in absurd (grind (arith, tests, on, off))) m body few

pub returns : goal.returns
returns c = record {
  told = λ input verdict h is.
      told_of c.args.program.now c.args.bound input c.run_body.new.told c.run_body.new.known c.in_ok-run_body.field-0
      (Some c.in_ok-end.end) (c.in_ok-run_body.ensures.leads _ (c.in_ok-known.ensures input h))
      (λ m on stands. (
        (c.in_ok-end.ensures.cells m stands, c.in_ok-end.ensures.declared m stands),
        (c.in_ok-end.ensures.counts m stands).0,
        (c.in_ok-end.ensures.counts m stands).1,
      ))
      verdict is;
  time = λ input m h body few.
      time_of c.args.program.now c.args.bound input c.run_body.new.told c.run_body.new.known c.in_ok-run_body.field-0
      (Some c.in_ok-end.end) (c.in_ok-run_body.ensures.leads _ (c.in_ok-known.ensures input h))
      (λ m on stands. (
        (c.in_ok-end.ensures.cells m stands, c.in_ok-end.ensures.declared m stands),
        (c.in_ok-end.ensures.counts m stands).0,
        (c.in_ok-end.ensures.counts m stands).1,
      ))
      m body few;
  undecided = tt;
}
