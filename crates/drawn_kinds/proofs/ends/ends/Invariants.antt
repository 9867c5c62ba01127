use Rattle.std.proofs.Common.{◌≡◌, ◌++◌}
use Rattle.drawn_kinds.specs.Kinds as spec
use Rattle.drawn_kinds.proofs.ends.ends.Given as goal

abbrev pub invariant-loop-edge : goal.invariant-loop-edge
invariant-loop-edge l = l.found.items ≡ spec.first_ends l.vertices.count l.edge l.words

abbrev pub invariant-loop-other : goal.invariant-loop-other
invariant-loop-other l =
    l.found.items ≡ spec.first_ends l.vertices.count l.edges l.words ++ spec.second_ends l.vertices.count l.other l.words
