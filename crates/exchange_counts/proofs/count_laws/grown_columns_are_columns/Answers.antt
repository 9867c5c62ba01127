use Rattle.exchange_counts.proofs.CountedExchangeLemmas.{still_columns}
use Rattle.exchange_counts.proofs.count_laws.grown_columns_are_columns.Goals as goal

pub returns : goal.returns
returns c = λ columns more count are grow. still_columns count columns more are grow
