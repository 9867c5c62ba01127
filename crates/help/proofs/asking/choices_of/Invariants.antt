use Rattle.std.proofs.Common.{◌≡◌}
use Rattle.help.specs.Kinds.{all_choices}
use Rattle.help.proofs.Gathering.{Gathered}
use Rattle.help.proofs.asking.choices_of.Given as goal

abbrev pub invariant-loop-choice : goal.invariant-loop-choice
invariant-loop-choice l = record {
  same : l.tokens.items ≡ l.fn.tokens.items;
  all : l.all ≡ all_choices;
  gathered : Gathered l.fn.tokens.items l.all l.found.items l.choice-index;
}
