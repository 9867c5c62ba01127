use Rattle.exchange_counts.proofs.CountedExchangeLemmas.{one_more}
use Rattle.exchange_counts.proofs.count_laws.one_more_is_told.Goals as goal

pub returns : goal.returns
returns c = λ columns more count are grow. one_more count columns more are grow
