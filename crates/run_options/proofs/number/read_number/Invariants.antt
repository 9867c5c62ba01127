use Rattle.std.proofs.Common.{◌≡◌, ◌≤◌, drop}
use Rattle.pram_tokens.specs.Lexemes.{value_after}
use Rattle.pram_tokens.specs.Input.{are_digits}
use Rattle.run_options.specs.Numbers.{most_number}
use Rattle.run_options.proofs.number.read_number.Given as goal

abbrev pub invariant-digits : goal.invariant-digits
invariant-digits l = record {
  value : value_after l.value (drop l.byte-index l.word) ≡ value_after 0 l.word;
  digits : are_digits (drop l.byte-index l.word) ≡ are_digits l.word;
  small : l.value ≤ most_number;
}
