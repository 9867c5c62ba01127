use Rattle.text_out.proofs.Progress.{breaks_off, goes_on}
use Rattle.all_inputs.specs.Faulting.{all_kinds}
use Rattle.all_inputs.proofs.TextLines.{kinds_at}
use Rattle.all_inputs.proofs.faults_text.write_kinds.Goals as goal

pub returns-in_err-write_fault_of : goal.returns-in_err-write_fault_of
returns-in_err-write_fault_of g c =
    let at = kinds_at c.args.layout.now c.args.words.now c.args.entry.now all_kinds c.loop-kind.kind-index _ _ c.loop-kind-test.true
    c.reason-reason.ensures in
    record {
      written = breaks_off _ _ _ _ _ _ _ c.from_residual.result _ c.from_residual.ensures.1 c.loop-kind.invariant at
          c.in_err-write_fault_of.ensures.written;
    }

pub loop-kind-preserved : goal.loop-kind-preserved
loop-kind-preserved g c =
    let at = kinds_at c.args.layout.now c.args.words.now c.args.entry.now all_kinds c.loop-kind.kind-index _ _ c.loop-kind-test.true
    c.reason-reason.ensures in
    goes_on _ _ _ _ _ _ _ c.loop-kind.invariant at c.in_ok-write_fault_of.ensures.written
