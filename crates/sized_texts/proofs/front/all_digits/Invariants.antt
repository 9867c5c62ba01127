use Rattle.std.proofs.Common.{◌≡◌, drop}
use Rattle.pram_tokens.specs.Input.{are_digits}
use Rattle.sized_texts.proofs.front.all_digits.Given as goal

abbrev pub invariant-loop-b : goal.invariant-loop-b
invariant-loop-b l = are_digits (drop l.b-index l.token) ≡ are_digits l.token
