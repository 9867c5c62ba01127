use Rattle.superstep_machine.proofs.Refused.{same_before_marks, same_outcome_before, all_stop_at_a_mark, no_outcome_at_a_mark}
use Rattle.superstep_machine.proofs.mark_law.runs_up_to_a_mark.Goals as goal

pub returns : goal.returns
returns c = record {
  before = same_before_marks;
  outcome = same_outcome_before;
  stopped = all_stop_at_a_mark;
  no_outcome =
      no_outcome_at_a_mark;
}
