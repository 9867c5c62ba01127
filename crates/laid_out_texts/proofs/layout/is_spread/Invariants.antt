use Rattle.std.proofs.Common.{◌≡◌, ◌≤◌, ◌+◌, drop}
use Rattle.laid_out_texts.specs.Layout.{is_spread}
use Rattle.laid_out_texts.specs.Pieces.{seen}
use Rattle.laid_out_texts.proofs.layout.is_spread.Given as goal

abbrev pub invariant-loop-piece : goal.invariant-loop-piece
invariant-loop-piece l = (is_spread l.depth (seen (drop l.piece-index l.pieces)) ≡ is_spread 1 (seen l.pieces))
    × (l.depth ≤ l.piece-index + 1)
