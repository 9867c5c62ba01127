use Rattle.std.proofs.Common.{◌≡◌, ℤ, List}
use Rattle.scopes.specs.Found.{found, found_is}
use Rattle.comparing.specs.Found.{AreOfKind}
use Rattle.comparing.proofs.exploring.try_kind.Given as goal

abbrev pub invariant-loop-turn : goal.invariant-loop-turn
invariant-loop-turn g l =
    (inputs : List (List ℤ)) × AreOfKind l.fn.kind l.fn.seed l.fn.cells l.turn inputs
    × (found_is l.findings ≡ found l.fn.specification l.fn.program l.fn.bound inputs)
