use Rattle.std.proofs.Common.{◌++◌, codes, refl}
use Rattle.text_out.proofs.Progress.{breaks_off, closes, goes_on, starts}
use Rattle.scopes.specs.Found.{found_is}
use Rattle.scopes.specs.FindingsText.{fact, fact_with, outcomes_text}
use Rattle.scopes.proofs.findings_text.write_counts.Goals as goal

pub returns-in_err-write_fact : goal.returns-in_err-write_fact
returns-in_err-write_fact g c =
    let s = c.args.specification.now in
    let f = found_is c.args.findings.now in
    let inputs = fact (codes "inputs ") f.inputs in
    let counting = fact_with s.precondition (codes "counting ") f.counting in
    let outcomes = outcomes_text f in
    let failed = fact_with s.postcondition (codes "failed ") f.failed in
    record {
      written = breaks_off _ _ _ _ _ inputs (counting ++ (outcomes ++ failed)) c.from_residual.result _ c.from_residual.ensures.1
          (starts _ _) refl
          c.in_err-write_fact.ensures.written;
    }

pub returns-in_err-write_fact_with : goal.returns-in_err-write_fact_with
returns-in_err-write_fact_with g c =
    let s = c.args.specification.now in
    let f = found_is c.args.findings.now in
    let inputs = fact (codes "inputs ") f.inputs in
    let counting = fact_with s.precondition (codes "counting ") f.counting in
    let outcomes = outcomes_text f in
    let failed = fact_with s.postcondition (codes "failed ") f.failed in
    let p1 = goes_on _ _ _ _ _ inputs (counting ++ (outcomes ++ failed)) (starts _ _) refl c.in_ok-write_fact.ensures.written in
    record {
      written = breaks_off _ _ _ _ _ counting (outcomes ++ failed) c.from_residual-in_err-write_fact_with.result _
          c.from_residual-in_err-write_fact_with.ensures.1 p1 refl
          c.in_err-write_fact_with.ensures.written;
    }

pub returns-in_err-write_outcomes : goal.returns-in_err-write_outcomes
returns-in_err-write_outcomes g c =
    let s = c.args.specification.now in
    let f = found_is c.args.findings.now in
    let inputs = fact (codes "inputs ") f.inputs in
    let counting = fact_with s.precondition (codes "counting ") f.counting in
    let outcomes = outcomes_text f in
    let failed = fact_with s.postcondition (codes "failed ") f.failed in
    let p1 = goes_on _ _ _ _ _ inputs (counting ++ (outcomes ++ failed)) (starts _ _) refl c.in_ok-write_fact.ensures.written in
    let p2 = goes_on _ _ _ _ _ counting (outcomes ++ failed) p1 refl c.in_ok-write_fact_with.ensures.written in
    record {
      written = breaks_off _ _ _ _ _ outcomes failed c.from_residual-in_err-write_outcomes.result _
          c.from_residual-in_err-write_outcomes.ensures.1 p2 refl
          c.in_err-write_outcomes.ensures.written;
    }

pub returns : goal.returns
returns g c =
    let s = c.args.specification.now in
    let f = found_is c.args.findings.now in
    let inputs = fact (codes "inputs ") f.inputs in
    let counting = fact_with s.precondition (codes "counting ") f.counting in
    let outcomes = outcomes_text f in
    let failed = fact_with s.postcondition (codes "failed ") f.failed in
    let p1 = goes_on _ _ _ _ _ inputs (counting ++ (outcomes ++ failed)) (starts _ _) refl c.in_ok-write_fact.ensures.written in
    let p2 = goes_on _ _ _ _ _ counting (outcomes ++ failed) p1 refl c.in_ok-write_fact_with.ensures.written in
    let p3 = goes_on _ _ _ _ _ outcomes failed p2 refl c.in_ok-write_outcomes.ensures.written in
    record { written = closes _ _ _ _ _ c.write_fact_with-2.result p3 c.write_fact_with-2.ensures.written }
