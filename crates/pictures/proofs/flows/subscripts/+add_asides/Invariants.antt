use Rattle.std.proofs.Common.{◌≡◌, ◌++◌, drop}
use Rattle.pictures.specs.Flows.Subscripts.{asides, link_asides}
use Rattle.pictures.proofs.flows.subscripts.+add_asides.Given as goal

-- with those of the operands that are left
abbrev pub invariant-loop-link : goal.invariant-loop-link
invariant-loop-link l =
    l.all.items ++ link_asides l.inside (drop l.link-index l.link-items) ≡ l.fn.all.items ++ asides l.inside l.e
