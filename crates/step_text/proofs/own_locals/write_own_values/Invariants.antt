use Rattle.step_text.specs.OwnLocals.{values_text}
use Rattle.step_text.proofs.OwnTexts.{InValues}
use Rattle.step_text.proofs.own_locals.write_own_values.Given as goal

abbrev pub invariant-loop-value : goal.invariant-loop-value
invariant-loop-value g l = InValues (g.W.Out.state l.fn.out) (g.W.Out.state l.out) (values_text l.fn.tree l.fn.at 0 l.fn.values) l.fn.tree
    l.fn.at l.fn.values l.value-index l.number
