-- Verified code has exactly one outcome.
use Rattle.std.proofs.Common.{◌+◌, ◌*◌, length}
use Rattle.flat_machine.specs.ByInstructions.{everywhere}
use Rattle.flat_machine.specs.Verdicts.{OneOutcome}
use Rattle.flat_machine.proofs.Stepping.{outcome_stays, one_end}
use Rattle.flat_machine.proofs.Arrival.{arrives}
use Rattle.flat_machine.proofs.Laws.{workers_are_flat}

pub one_outcome : OneOutcome
one_outcome code formed input bound =
    let a = arrives code formed bound everywhere input in
    let n = (bound + 1) * length code.instructions in
    record {
      verdict = a.0;
      lasts = λ more h. outcome_stays code bound everywhere input n more a.0 h a.1;
      only = λ other o. one_end code bound everywhere input o.instructions n other a.0 o.ends a.1;
      on_workers = λ map room. (workers_are_flat code map room input bound a.0).1 (record { instructions = n; ends = a.1 });
      alone = λ map room other h. let r = (workers_are_flat code map room input bound other).0 h in
          one_end code bound everywhere input r.instructions n other a.0 r.ends a.1;
    }
