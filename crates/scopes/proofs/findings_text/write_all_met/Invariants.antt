use Rattle.std.proofs.Common.{drop, map}
use Rattle.text_out.proofs.Progress.{Progress}
use Rattle.scopes.specs.Found.{met_is}
use Rattle.scopes.specs.FindingsText.{met_lines}
use Rattle.scopes.proofs.findings_text.write_all_met.Given as goal

abbrev pub invariant-loop-found : goal.invariant-loop-found
invariant-loop-found g l =
    Progress (g.W.Out.state l.fn.out) (g.W.Out.state l.out) (met_lines l.fn.layout (map met_is l.fn.faults))
    (met_lines l.fn.layout (map met_is (drop l.found-index l.fn.faults)))
