use Rattle.std.proofs.Common.{pos, sym, subst, refl, arith, tests}
use Rattle.intervals.specs.Intervals.{IsIn}
use Rattle.abstract_runs.proofs.Covering.{covered_past, covered_read}
use Rattle.abstract_runs.proofs.outlook.interval_at.Goals as goal

pub returns-in-Some : goal.returns-in-Some
returns-in-Some c =
    let found = c.in-Some.ensures.lookup in
    λ zs h. covered_read c.args.items.now zs c.args.place c.in-Some.interval.now (grind (arith, tests, found.0)) found.1 h

pub returns-in-None : goal.returns-in-None
returns-in-None c =
    let found = c.in-None.ensures.lookup in
    λ zs h. subst (λ v. IsIn v c.point.result) (sym (covered_past c.args.items.now zs c.args.place (grind (arith, tests, found.0)) h))
    ((c.point.ensures.member (pos 0)).1 refl)
