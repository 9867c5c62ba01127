use Rattle.std.proofs.Common.{◌≡◌, ℤ, List}
use Rattle.comparing.specs.Found.{AreOfKind, found, found_is}
use Rattle.comparing.proofs.of_kind.compare_kind.Given as goal

abbrev pub invariant-loop-turn : goal.invariant-loop-turn
invariant-loop-turn l =
    (inputs : List (List ℤ)) × AreOfKind l.fn.kind l.fn.seed l.fn.cells l.turn inputs
    × (found_is l.comparison ≡ found l.fn.precondition l.fn.first l.fn.second l.fn.compared l.fn.bound l.most inputs)
