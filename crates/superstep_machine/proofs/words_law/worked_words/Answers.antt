use Rattle.std.proofs.Common.{refl}
use Rattle.superstep_machine.proofs.words_law.worked_words.Goals as goal

pub returns : goal.returns
returns c = record { values = refl; sums = refl }
