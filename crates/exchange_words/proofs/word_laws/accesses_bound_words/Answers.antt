use Rattle.exchange_words.proofs.Laws.{accesses_bound_words}
use Rattle.exchange_words.proofs.word_laws.accesses_bound_words.Goals as goal

pub returns : goal.returns
returns c = record { bound = accesses_bound_words }
