use Rattle.compiled_formulas.proofs.WritesInside.{writes_are_tasks}
use Rattle.compiled_formulas.proofs.formula_laws.writes_are_tasks.Goals as goal

pub returns : goal.returns
returns c = record { writes = writes_are_tasks }
