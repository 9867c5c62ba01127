use Rattle.statement_evaluation.proofs.Effects.{parts_are_whole, tests_are_values, locals_are_values, cells_are_settled, no_cell_is_lost}
use Rattle.statement_evaluation.proofs.Effects.{entries_are_the_rule, one_writer}
use Rattle.statement_evaluation.proofs.evaluation_laws.effects_are_values.Goals as goal

pub returns : goal.returns
returns c = record {
  parts = parts_are_whole;
  tests = tests_are_values;
  locals = locals_are_values;
  cells = cells_are_settled;
  length = no_cell_is_lost;
  entries = entries_are_the_rule;
  one_writer = one_writer;
}
