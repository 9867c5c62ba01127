use Rattle.std.proofs.Common.{◌≡◌, drop}
use Rattle.pram_model.specs.Names as tokens
use Rattle.pram_model.proofs.names.are_words.Given as goal

abbrev pub invariant-loop-b : goal.invariant-loop-b
invariant-loop-b l = tokens.are_words l.text ≡ tokens.are_words (drop l.b-index l.text)
