use Rattle.std.proofs.Common.{◌++◌, ap, refl}
use Rattle.write_rules.specs.Verdict.{verdict_of}
use Rattle.text_out.proofs.Progress.{breaks_off, closes, goes_on, starts}
use Rattle.costs.specs.CostText.{access_lines, bound_lines, schedule_lines, work_lines}
use Rattle.costs.proofs.cost_text.write_cost.Goals as goal

pub returns-in_err-write_work : goal.returns-in_err-write_work
returns-in_err-write_work g c =
    let cost = c.args.cost.now in
    let rest = bound_lines (verdict_of c.args.outcome.now) cost ++ schedule_lines cost c.args.schedule in
    record {
      written = breaks_off _ _ _ _ _ (work_lines cost) (access_lines cost ++ rest) c.from_residual.result _ c.from_residual.ensures.1
          (starts _ _) refl c.in_err-write_work.ensures.written;
    }

pub returns-in_err-write_accesses : goal.returns-in_err-write_accesses
returns-in_err-write_accesses g c =
    let cost = c.args.cost.now in
    let rest = bound_lines (verdict_of c.args.outcome.now) cost ++ schedule_lines cost c.args.schedule in
    let work = goes_on _ _ _ _ _ (work_lines cost) (access_lines cost ++ rest) (starts _ _) refl
    c.in_ok-write_work.ensures.written in
    record {
      written = breaks_off _ _ _ _ _ (access_lines cost) rest c.from_residual-in_err-write_accesses.result _
          c.from_residual-in_err-write_accesses.ensures.1 work refl c.in_err-write_accesses.ensures.written;
    }

pub returns-in_err-write_bound : goal.returns-in_err-write_bound
returns-in_err-write_bound g c =
    let cost = c.args.cost.now in
    let bound = bound_lines (verdict_of c.args.outcome.now) cost in
    let schedule = schedule_lines cost c.args.schedule in
    let work = goes_on _ _ _ _ _ (work_lines cost) (access_lines cost ++ (bound ++ schedule)) (starts _ _) refl
    c.in_ok-write_work.ensures.written in
    let accesses = goes_on _ _ _ _ _ (access_lines cost) (bound ++ schedule) work refl c.in_ok-write_accesses.ensures.written in
    record {
      written = breaks_off _ _ _ _ _ bound schedule c.from_residual-in_err-write_bound.result _
          c.from_residual-in_err-write_bound.ensures.1 accesses refl c.in_err-write_bound.ensures.written;
    }

pub returns-in-Some : goal.returns-in-Some
returns-in-Some g c =
    let cost = c.args.cost.now in
    let bound = bound_lines (verdict_of c.args.outcome.now) cost in
    let schedule = schedule_lines cost c.args.schedule in
    let work = goes_on _ _ _ _ _ (work_lines cost) (access_lines cost ++ (bound ++ schedule)) (starts _ _) refl
    c.in_ok-write_work.ensures.written in
    let accesses = goes_on _ _ _ _ _ (access_lines cost) (bound ++ schedule) work refl c.in_ok-write_accesses.ensures.written in
    let most = goes_on _ _ _ _ _ bound schedule accesses refl c.in_ok-write_bound.ensures.written in
    record {
      written = rw (ap (schedule_lines cost) c.in-Some.is)
          (closes _ _ _ _ _ c.write_rounds.result (rw (ap (schedule_lines cost) c.in-Some.is) at most) c.write_rounds.ensures.written);
    }
