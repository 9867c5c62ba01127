use Rattle.std.proofs.Common.{IfSome, subst}
use Rattle.pram_model.specs.declared.rule.Rule.{Rule}
use Rattle.abstract_runs.specs.Sure.{FaultsSurely, HaveFaultBy}
use Rattle.abstract_runs.proofs.SureKeys.{found_by, sooner_by}
use Rattle.abstract_runs.proofs.sure_faults.first_fault.Goals as goal

pub loop-k-preserved : goal.loop-k-preserved
loop-k-preserved c =
    sooner_by (λ at. (rule : Rule) → HaveFaultBy rule c.args.rows.now at) c.loop-k.first c.fault_position.result c.sooner-first.result
    c.sooner-first.ensures
    c.loop-k.invariant
    (found_by c.args.rows.now c.loop-k.k c.index-rows-k.result c.fault_position.result c.loop-k-test.true
    (subst (λ row. IfSome c.fault_position.result (λ at. FaultsSurely at row)) c.index-rows-k.is c.fault_position.ensures))
