use Rattle.superstep_machine.proofs.Refused.{any_mark_counts, memory_goes_first, mark_is_a_workers, marks_stop_all, marked_runs_end}
use Rattle.superstep_machine.proofs.mark_law.any_mark_stops_all.Goals as goal

pub returns : goal.returns
returns c = record {
  counts = any_mark_counts;
  memory_first = memory_goes_first;
  of_a_worker = mark_is_a_workers;
  stopped = marks_stop_all;
  no_outcome = marked_runs_end;
}
