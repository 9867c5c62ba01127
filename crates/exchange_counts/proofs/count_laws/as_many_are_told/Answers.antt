use Rattle.exchange_counts.proofs.CountedExchangeLemmas.{told_long}
use Rattle.exchange_counts.proofs.count_laws.as_many_are_told.Goals as goal

pub returns : goal.returns
returns c = told_long
