use Rattle.compiled_formulas.proofs.Outside.{formulas_are_evaluated_outside, pairs_are_evaluated_outside}
use Rattle.compiled_formulas.proofs.formula_laws.formulas_are_evaluated_outside.Goals as goal

pub returns : goal.returns
returns c = record { formulas = formulas_are_evaluated_outside; pairs = pairs_are_evaluated_outside }
