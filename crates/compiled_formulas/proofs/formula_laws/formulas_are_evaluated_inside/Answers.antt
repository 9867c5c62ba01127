use Rattle.compiled_formulas.proofs.Inside.{formulas_are_evaluated_inside, pairs_are_evaluated_inside}
use Rattle.compiled_formulas.proofs.formula_laws.formulas_are_evaluated_inside.Goals as goal

pub returns : goal.returns
returns c = record { formulas = formulas_are_evaluated_inside; pairs = pairs_are_evaluated_inside }
