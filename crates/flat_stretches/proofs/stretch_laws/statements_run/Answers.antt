use Rattle.flat_stretches.proofs.Statements.{runs_begin_at_rest, marks_begin, marks_hold, statements_finish, statements_fault}
use Rattle.flat_stretches.proofs.stretch_laws.statements_run.Goals as goal

pub returns : goal.returns
returns c = record {
  start = runs_begin_at_rest;
  begin = marks_begin;
  hold = marks_hold;
  finish = statements_finish;
  fault = statements_fault;
}
