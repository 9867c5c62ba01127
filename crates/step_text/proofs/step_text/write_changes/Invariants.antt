use Rattle.std.proofs.Common.{drop}
use Rattle.text_out.proofs.Progress.{Progress}
use Rattle.step_text.specs.ChangeTexts.{changes_text}
use Rattle.step_text.proofs.step_text.write_changes.Given as goal

abbrev pub invariant-loop-change : goal.invariant-loop-change
invariant-loop-change g l = Progress (g.W.Out.state l.fn.out) (g.W.Out.state l.out) (changes_text l.fn.layout l.fn.changes)
    (changes_text l.fn.layout (drop l.change-index l.fn.changes))
