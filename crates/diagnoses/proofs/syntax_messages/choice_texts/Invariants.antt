use Rattle.std.proofs.Common.{◌≡◌, map, take}
use Rattle.help.specs.ChoiceTexts.{choice_text}
use Rattle.diagnoses.proofs.syntax_messages.choice_texts.Given as goal

abbrev pub invariant-loop-choice : goal.invariant-loop-choice
invariant-loop-choice l = map (λ v. v.items) l.texts.items ≡ map choice_text (take l.choice-index l.found)
