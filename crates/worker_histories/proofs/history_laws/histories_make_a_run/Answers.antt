use Rattle.worker_histories.proofs.Parts.{histories_make_a_run}
use Rattle.worker_histories.proofs.Reading.{histories_in_words_make_a_run, histories_in_words_are_the_run_so_far}
use Rattle.worker_histories.proofs.history_laws.histories_make_a_run.Goals as goal

pub returns : goal.returns
returns c = record {
  messages = histories_make_a_run;
  words = histories_in_words_make_a_run;
  so_far = histories_in_words_are_the_run_so_far;
}
