use Rattle.std.proofs.Common.{◌≡◌, take}
use Rattle.drawn_kinds.specs.Kinds as spec
use Rattle.drawn_kinds.proofs.nodes.nodes.Given as goal

abbrev pub invariant-loop-place : goal.invariant-loop-place
invariant-loop-place l = l.found.items ≡ spec.nodes l.first (take l.place-index l.order)
