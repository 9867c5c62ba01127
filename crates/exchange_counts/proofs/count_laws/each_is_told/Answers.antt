use Rattle.exchange_counts.proofs.CountedExchangeLemmas.{told_at}
use Rattle.exchange_counts.proofs.count_laws.each_is_told.Goals as goal

pub returns : goal.returns
returns c = told_at
