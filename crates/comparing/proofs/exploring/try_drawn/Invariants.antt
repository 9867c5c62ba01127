use Rattle.std.proofs.Common.{◌≡◌}
use Rattle.scopes.specs.Found.{found, found_is}
use Rattle.comparing.specs.Found.{drawn_inputs}
use Rattle.comparing.proofs.exploring.try_drawn.Given as goal

abbrev pub invariant-loop-turn : goal.invariant-loop-turn
invariant-loop-turn g l =
    found_is l.findings ≡ found l.fn.specification l.fn.program l.fn.bound
    (drawn_inputs l.fn.drawing.low l.fn.drawing.high l.fn.drawing.seed l.fn.cells l.turn)
