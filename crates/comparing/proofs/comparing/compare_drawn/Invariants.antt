use Rattle.std.proofs.Common.{◌≡◌}
use Rattle.comparing.specs.Found.{drawn_inputs, found, found_is}
use Rattle.comparing.proofs.comparing.compare_drawn.Given as goal

abbrev pub invariant-loop-turn : goal.invariant-loop-turn
invariant-loop-turn l =
    found_is l.comparison ≡ found l.fn.precondition l.fn.first l.fn.second l.fn.compared l.fn.bound l.most
    (drawn_inputs l.fn.drawing.low l.fn.drawing.high l.fn.drawing.seed l.fn.cells l.turn)
