use Rattle.abstract_runs.specs.Sure.{HaveFaultBy}
use Rattle.abstract_runs.proofs.SureKeys.{by_rule, sooner_by}
use Rattle.abstract_runs.proofs.sure_faults.sure_position.Goals as goal

pub returns-then-is_none : goal.returns-then-is_none
returns-then-is_none c = by_rule c.args.rows.now c.first_fault-first.result c.args.rule c.first_fault-first.ensures

pub returns : goal.returns
returns c =
    sooner_by (HaveFaultBy c.args.rule c.args.rows.now) c.first_fault-first.result c.in_ok-meets.meets c.sooner.result c.sooner.ensures
    (by_rule c.args.rows.now c.first_fault-first.result c.args.rule c.first_fault-first.ensures) c.in_ok-meets.ensures
