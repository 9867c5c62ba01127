use Rattle.std.proofs.Common.{◌≡◌, ◌++◌, ◌*◌, length, take, drop}
use Rattle.std.specs.Vec.Iter.{into_iter_items}
use Rattle.scopes.specs.Scopes.{inputs_of}
use Rattle.scopes.specs.Found.{found, found_is}
use Rattle.scopes.proofs.side_by_side.explore_blocks.Given as goal

abbrev pub invariant-merging : goal.invariant-merging
invariant-merging g l = record {
  rest : l.yielded ++ into_iter_items l.part-iterator ≡ into_iter_items l.initial.part-iterator;
  so_far : found_is l.all ≡ found l.fn.specification l.fn.program l.fn.bound (take (length l.yielded * l.fn.size) (drop l.fn.place
      (inputs_of l.fn.scope)));
}
