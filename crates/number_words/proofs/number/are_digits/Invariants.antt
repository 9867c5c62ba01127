use Rattle.std.proofs.Common.{◌≡◌, drop}
use Rattle.pram_tokens.specs.Input.{are_digits}
use Rattle.number_words.proofs.number.are_digits.Given as goal

abbrev pub invariant-loop-b : goal.invariant-loop-b
invariant-loop-b l = are_digits (drop l.b-index l.text) ≡ are_digits l.text
