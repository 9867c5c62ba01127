use Rattle.drawn_kinds.proofs.Drawing.{IsDrawnTo}
use Rattle.drawn_kinds.proofs.words.words.Given as goal

abbrev pub invariant-loop-turn : goal.invariant-loop-turn
invariant-loop-turn l = IsDrawnTo l.seed l.count l.found.items l.turn l.generator
