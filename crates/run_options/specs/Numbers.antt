-- Numbers of options.
use Rattle.std.specs.Prelude.{ℕ, List, Option, Some, None, if◌then◌else◌}
use Rattle.pram_tokens.specs.Lexemes.{value_after}
use Rattle.pram_tokens.specs.Input.{is_value}

-- the greatest number of an option, 2 ^ 32 - 1
abbrev pub most_number : ℕ
most_number = 4294967295

-- the number of one or more decimal digits, of at most that value, and of no other word
abbrev pub number_of : List ℕ → Option ℕ
number_of word = if is_value most_number word then Some (value_after 0 word) else None
