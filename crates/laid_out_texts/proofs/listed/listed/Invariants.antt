use Rattle.std.proofs.Common.{◌≡◌, ◌++◌, drop}
use Rattle.laid_out_texts.specs.Pieces.{lines, seen}
use Rattle.laid_out_texts.proofs.listed.listed.Given as goal

abbrev pub invariant-loop-piece : goal.invariant-loop-piece
invariant-loop-piece l = l.to.items ++ lines (seen (drop l.piece-index l.piece-items)) ≡ lines (seen l.piece-items)
