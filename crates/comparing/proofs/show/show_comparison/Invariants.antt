use Rattle.std.proofs.Common.{drop}
use Rattle.text_out.proofs.Progress.{Progress}
use Rattle.comparing.specs.Compared.{rules}
use Rattle.comparing.specs.RulesText.{comparison_text, rule_lines}
use Rattle.comparing.proofs.show.show_comparison.Given as goal

abbrev pub invariant-loop-rule : goal.invariant-loop-rule
invariant-loop-rule g l = Progress (g.W.Out.state l.fn.out) (g.W.Out.state l.out) (comparison_text l.fn.comparison)
    (rule_lines l.fn.comparison (drop l.rule-index rules))
