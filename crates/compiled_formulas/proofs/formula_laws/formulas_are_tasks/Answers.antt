use Rattle.compiled_formulas.proofs.Tasks.{expressions_are_single, singles_are_terms, values_are_tasks}
use Rattle.compiled_formulas.proofs.formula_laws.formulas_are_tasks.Goals as goal

pub returns : goal.returns
returns c = record { expressions = expressions_are_single; singles = singles_are_terms; values = values_are_tasks }
