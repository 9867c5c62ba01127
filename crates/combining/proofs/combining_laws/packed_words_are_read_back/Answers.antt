use Rattle.superstep_machine.proofs.ReadBack.{asks_back}
use Rattle.combining.proofs.ReadBack.{packed_back, entries_back, askers_back}
use Rattle.combining.proofs.combining_laws.packed_words_are_read_back.Goals as goal

pub returns : goal.returns
returns c = record { puts = packed_back; asks = asks_back; entries = entries_back; askers = askers_back }
