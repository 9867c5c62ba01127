use Rattle.std.proofs.Common.{◌≡◌, drop}
use Rattle.help.specs.Signs.{could}
use Rattle.help.proofs.sign.could.Given as goal

abbrev pub invariant-loop-choice : goal.invariant-loop-choice
invariant-loop-choice l = could l.sign (drop l.choice-index l.found) ≡ could l.sign l.found
