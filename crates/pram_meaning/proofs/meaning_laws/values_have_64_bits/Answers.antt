use Rattle.pram_meaning.proofs.ValuesKept.{outcomes_have_values, statements_keep_values, steps_keep_values}
use Rattle.pram_meaning.proofs.meaning_laws.values_have_64_bits.Goals as goal

pub returns : goal.returns
returns c = record { statements = statements_keep_values; steps = steps_keep_values; outcomes = outcomes_have_values }
