use Rattle.std.proofs.Common.{refl}
use Rattle.worker_exchange.proofs.FittedLemmas.{verified_voted}
use Rattle.worker_exchange.proofs.voting.take_vote.Goals as goal

pub returns-clause-verified : goal.returns-clause-verified
returns-clause-verified c = λ code formed v there.
    verified_voted code c.args.local.now.steps _ c.args.destination formed v there refl refl refl refl
