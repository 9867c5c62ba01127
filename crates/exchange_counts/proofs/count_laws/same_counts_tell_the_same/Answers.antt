use Rattle.exchange_counts.proofs.CountedExchangeLemmas.{same_told}
use Rattle.exchange_counts.proofs.count_laws.same_counts_tell_the_same.Goals as goal

pub returns : goal.returns
returns c = λ columns others are same. same_told columns others same
