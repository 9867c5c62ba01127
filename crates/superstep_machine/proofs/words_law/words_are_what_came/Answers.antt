use Rattle.superstep_machine.proofs.ReadBack.{entries_of_words, askers_of_words}
use Rattle.superstep_machine.proofs.words_law.words_are_what_came.Goals as goal

pub returns : goal.returns
returns c = record { entries = entries_of_words; askers = askers_of_words }
