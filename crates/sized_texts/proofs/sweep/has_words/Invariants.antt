use Rattle.std.proofs.Common.{◌≡◌, drop}
use Rattle.pram_model.specs.Names.{are_words}
use Rattle.sized_texts.proofs.sweep.has_words.Given as goal

abbrev pub invariant-loop-b : goal.invariant-loop-b
invariant-loop-b l = are_words (drop l.b-index l.text) ≡ are_words l.text
