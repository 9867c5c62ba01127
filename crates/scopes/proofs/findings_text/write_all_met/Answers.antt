use Rattle.std.proofs.Common.{List, map}
use Rattle.text_out.proofs.Writing.{writes_stopped}
use Rattle.text_out.proofs.Progress.{goes_on, stops}
use Rattle.scopes.specs.declared.findings.FoundFault.{FoundFault}
use Rattle.scopes.specs.Found.{met_is}
use Rattle.scopes.specs.FindingsText.{met_lines}
use Rattle.text_out.proofs.Items.{at_item}
use Rattle.scopes.proofs.findings_text.write_all_met.Goals as goal

pub returns-in_err-write_met : goal.returns-in_err-write_met
returns-in_err-write_met g c =
    let at = at_item (λ (fs : List FoundFault). met_lines c.args.layout.now (map met_is fs)) c.args.faults.now c.loop-found.found-index
    c.found-item.result c.loop-found-test.true c.found-item.is in
    record {
      written = writes_stopped _ _ _ c.from_residual.result _ c.from_residual.ensures.1
          (stops _ _ _ _ _ _ _ c.loop-found.invariant at c.in_err-write_met.ensures.written);
    }

pub loop-found-preserved : goal.loop-found-preserved
loop-found-preserved g c =
    let at = at_item (λ (fs : List FoundFault). met_lines c.args.layout.now (map met_is fs)) c.args.faults.now c.loop-found.found-index
    c.found-item.result c.loop-found-test.true c.found-item.is in
    goes_on _ _ _ _ _ _ _ c.loop-found.invariant at c.in_ok-write_met.ensures.written
