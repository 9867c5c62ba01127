use Rattle.std.proofs.Common.{◌≡◌, ◌++◌, map}
use Rattle.std.specs.List.{fold}
use Rattle.std.specs.Vec.Iter.{into_iter_items}
use Rattle.scopes.specs.Firsts.{noted}
use Rattle.scopes.specs.Found.{met_is}
use Rattle.scopes.proofs.merging.keep_all.Given as goal

abbrev pub invariant-keeping : goal.invariant-keeping
invariant-keeping l = record {
  rest : l.yielded ++ into_iter_items l.found-iterator ≡ into_iter_items l.initial.found-iterator;
  kept : map met_is l.faults.items ≡ fold noted (map met_is l.fn.faults.items) (map met_is l.yielded);
}
