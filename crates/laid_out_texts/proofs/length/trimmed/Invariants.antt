use Rattle.std.proofs.Common.{◌≡◌, ◌≤◌, drop}
use Rattle.laid_out_texts.specs.Pieces.{kept_from}
use Rattle.laid_out_texts.proofs.length.trimmed.Given as goal

abbrev pub invariant-loop-at : goal.invariant-loop-at
invariant-loop-at l = (kept_from l.at l.kept (drop l.at l.bytes) ≡ kept_from 0 0 l.bytes) × (l.kept ≤ l.at)
