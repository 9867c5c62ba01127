use Rattle.std.proofs.Common.{◌≡◌, drop, take}
use Rattle.help.proofs.Farthest.{AreTried}
use Rattle.help.proofs.missing.missing_of.Given as goal

abbrev pub invariant-loop-choice : goal.invariant-loop-choice
invariant-loop-choice l = record {
  same : l.tokens.items ≡ l.fn.tokens.items;
  at : l.at ≡ l.fn.at;
  tried : AreTried (take l.at l.fn.tokens.items) (drop l.at l.fn.tokens.items) (take l.choice-index l.found) l.most l.best;
}
