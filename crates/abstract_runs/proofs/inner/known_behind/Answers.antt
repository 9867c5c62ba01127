use Rattle.std.proofs.Common.{subst}
use Rattle.abstract_runs.specs.Onward.{Onward}
use Rattle.abstract_runs.specs.Staying.{AsBefore}
use Rattle.abstract_runs.proofs.ChoosingOn.{inner_still}
use Rattle.abstract_runs.proofs.inner.known_behind.Goals as goal

pub returns : goal.returns
returns c = λ p n vs m z goes h.
    inner_still c.args.inner vs m z (subst (Onward (AsBefore m)) goes (c.sets_local.ensures c.if-sets_local.false p n vs m)) h
