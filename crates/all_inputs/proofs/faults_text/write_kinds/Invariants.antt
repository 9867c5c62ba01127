use Rattle.std.proofs.Common.{drop}
use Rattle.text_out.proofs.Progress.{Progress}
use Rattle.all_inputs.specs.Faulting.{all_kinds}
use Rattle.all_inputs.specs.OverallText.{kind_lines}
use Rattle.all_inputs.proofs.faults_text.write_kinds.Given as goal

abbrev pub invariant-loop-kind : goal.invariant-loop-kind
invariant-loop-kind g l =
    Progress (g.W.Out.state l.fn.out) (g.W.Out.state l.out) (kind_lines l.fn.layout l.fn.words l.fn.entry all_kinds)
    (kind_lines l.fn.layout l.fn.words l.fn.entry (drop l.kind-index all_kinds))
