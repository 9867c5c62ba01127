use Rattle.compiled_formulas.proofs.Terms.{expressions_are_terms, steps_are_steps, expressions_are_named}
use Rattle.compiled_formulas.proofs.formula_laws.expressions_are_formulas.Goals as goal

pub returns : goal.returns
returns c = record { terms = expressions_are_terms; steps = steps_are_steps; names = expressions_are_named }
