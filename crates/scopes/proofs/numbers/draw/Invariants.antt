use Rattle.scopes.proofs.Turns.{IsDrawnTo}
use Rattle.scopes.proofs.numbers.draw.Given as goal

abbrev pub invariant-loop-turn : goal.invariant-loop-turn
invariant-loop-turn l = IsDrawnTo l.drawing.low l.drawing.high l.drawing.seed l.count l.found.items l.turn l.generator
