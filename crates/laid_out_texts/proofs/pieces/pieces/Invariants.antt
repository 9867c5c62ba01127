use Rattle.std.proofs.Common.{◌≡◌, ◌≤◌, ◌-◌, ◌++◌, drop, length}
use Rattle.laid_out_texts.specs.Pieces.{pieces, pieces_of, seen}
use Rattle.laid_out_texts.proofs.pieces.pieces.Given as goal

abbrev pub invariant-loop-at : goal.invariant-loop-at
invariant-loop-at l = record {
  so : seen l.found.items ++ pieces l.place 0 (drop l.at l.text) ≡ pieces_of l.text;
  fits : l.at ≤ length l.text;
}

abbrev pub decreases-loop-at : goal.decreases-loop-at
decreases-loop-at l = length l.text - l.at
