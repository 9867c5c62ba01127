use Rattle.worker_histories.proofs.Marking.{all_stop_or_none, marks_end_all_or_none}
use Rattle.worker_histories.proofs.history_laws.marks_end_all_or_none.Goals as goal

pub returns : goal.returns
returns c = record { exchange = all_stop_or_none; histories = marks_end_all_or_none }
