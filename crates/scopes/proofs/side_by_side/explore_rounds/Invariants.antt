use Rattle.std.proofs.Common.{◌≡◌, ◌*◌, take}
use Rattle.scopes.specs.Scopes.{inputs_of}
use Rattle.scopes.specs.Found.{found, found_is}
use Rattle.scopes.proofs.side_by_side.explore_rounds.Given as goal

abbrev pub invariant-rounds : goal.invariant-rounds
invariant-rounds g l = record {
  so_far : found_is l.all ≡ found l.fn.specification l.fn.program l.fn.bound (take (l.round * l.step) (inputs_of l.fn.scope));
  step : l.step ≡ l.fn.workers * l.fn.size;
}
