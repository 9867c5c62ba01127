use Rattle.superstep_machine.specs.Run.{bsp}
use Rattle.worker_exchange.specs.Rows.{words_in}
use Rattle.worker_histories.specs.Shares.{purpose_of, words_of}
use Rattle.worker_histories.specs.InWords.{in_words}
use Rattle.worker_histories.proofs.Growing.{histories_grow, shares_grow}
use Rattle.worker_histories.proofs.Marking.{clear_grows}
use Rattle.worker_histories.proofs.history_laws.histories_grow.Goals as goal

pub returns : goal.returns
returns c = record {
  messages = λ t. histories_grow (bsp t);
  words = λ t. histories_grow (in_words t);
  parts = λ t. shares_grow (bsp t) (purpose_of t) (words_of t.code.rule);
  parts_in_words = λ t. shares_grow (in_words t) (purpose_of t) words_in;
  clear = clear_grows;
}
