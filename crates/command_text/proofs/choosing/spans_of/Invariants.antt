use Rattle.std.proofs.Common.{◌≡◌, ◌++◌, drop}
use Rattle.command_text.specs.Spans.{spans_from}
use Rattle.command_text.proofs.choosing.spans_of.Given as goal

abbrev pub invariant-loop-i : goal.invariant-loop-i
invariant-loop-i l = l.spans.items ++ spans_from l.layout l.choice l.i (drop l.i l.layout) ≡ spans_from l.layout l.choice 0 l.layout
