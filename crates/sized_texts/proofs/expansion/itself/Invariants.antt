use Rattle.std.proofs.Common.{◌≡◌, ◌++◌, drop}
use Rattle.sized_texts.specs.Expansion.{offsets_from}
use Rattle.sized_texts.proofs.expansion.itself.Given as goal

-- what is there and what is left are all
abbrev pub invariant-loop-at : goal.invariant-loop-at
invariant-loop-at l = record {
  text : l.to.text.items ++ drop l.at l.text ≡ l.text;
  places : l.to.places.items ++ offsets_from l.at (drop l.at l.text) ≡ offsets_from 0 l.text;
}
