use Rattle.std.proofs.Common.{◌≡◌, true, subst}
use Rattle.intervals.specs.Comparisons.{holds}
use Rattle.abstract_runs.proofs.OneCell.{local_is}
use Rattle.abstract_runs.proofs.narrowing_members.narrow_local.Goals as goal

pub returns-in-Local : goal.returns-in-Local
returns-in-Local c = λ s z y cover value i is.
    (c.narrow_place.ensures.kept s.locals y cover i
    (subst (λ v. holds c.args.comparison v y ≡ true) (local_is s c.args.e.now c.in-Local.x z c.in-Local.is value) is)).1
