use Rattle.std.proofs.Common.{◌≡◌, ◌≤◌, drop}
use Rattle.pram_tokens.specs.Lexemes.{value_after}
use Rattle.number_words.proofs.number.value.Given as goal

abbrev pub invariant-loop-b : goal.invariant-loop-b
invariant-loop-b l = (value_after l.n (drop l.b-index l.digits) ≡ value_after 0 l.digits) × (l.n ≤ l.most)
