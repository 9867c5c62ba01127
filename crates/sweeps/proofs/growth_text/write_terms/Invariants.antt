use Rattle.std.proofs.Common.{drop}
use Rattle.text_out.proofs.Progress.{Progress}
use Rattle.sweeps.specs.GrowthText.{formula_text, terms_text, written}
use Rattle.sweeps.proofs.growth_text.write_terms.Given as goal

abbrev pub invariant-loop-term : goal.invariant-loop-term
invariant-loop-term g l =
    Progress (g.W.Out.state l.fn.out) (g.W.Out.state l.out) (formula_text l.fn.variable l.fn.formula)
    (terms_text l.fn.variable l.fn.formula l.first (drop l.term-index written))
