use Rattle.statement_evaluation.proofs.Attempts.{whole_expressions, whole_values, whole_assignments, whole_inner_assignments}
use Rattle.statement_evaluation.proofs.Attempts.{whole_bounds_of}
use Rattle.statement_evaluation.proofs.Attempts.{whole_ranges}
use Rattle.statement_evaluation.proofs.Attempts.{test_parts, assignment_parts}
use Rattle.statement_evaluation.proofs.evaluation_laws.attempts_are_whole.Goals as goal

pub returns : goal.returns
returns c = record {
  expressions = whole_expressions;
  values = whole_values;
  assignments = whole_assignments;
  inner_assignments = whole_inner_assignments;
  bounds = whole_bounds_of;
  ranges = whole_ranges;
  test_parts = test_parts;
  assignment_parts = assignment_parts;
}
