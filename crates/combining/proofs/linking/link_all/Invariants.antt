use Rattle.std.proofs.Common.{◌≡◌, ◌-◌, length, vec_capacity}
use Rattle.combining.specs.Places.{IsIndexed}
use Rattle.combining.proofs.linking.link_all.Given as goal

abbrev pub invariant-loop-links : goal.invariant-loop-links
invariant-loop-links l = record {
  indexed : IsIndexed l.mask l.keys l.links.items l.heads;
  room : vec_capacity l.links ≡ vec_capacity l.initial.links;
}

abbrev pub decreases-loop-links : goal.decreases-loop-links
decreases-loop-links l = length l.keys - length l.links.items
