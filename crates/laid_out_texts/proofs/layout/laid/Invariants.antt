use Rattle.std.proofs.Common.{◌≡◌, ◌++◌, drop}
use Rattle.laid_out_texts.specs.Layout.{laid, start}
use Rattle.laid_out_texts.specs.Pieces.{seen}
use Rattle.laid_out_texts.proofs.layout.laid.Given as goal

abbrev pub invariant-loop-at : goal.invariant-loop-at
invariant-loop-at l = l.to.items ++ laid l.state (seen (drop l.at l.pieces)) ≡ laid start (seen l.pieces)
