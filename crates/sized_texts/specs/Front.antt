-- What stands at the front of an expression: white space, a token, a number.
use Rattle.std.specs.Prelude.{ℕ, ◌==◌, Bool, ◌||◌, if◌then◌else◌, List, [], ◌∷◌, max, take, drop, Result, Err}
use Rattle.std.specs.List.{prefix_len}
use Rattle.pram_model.specs.Names.{is_word}
use Rattle.pram_tokens.specs.Input.{are_digits}
use Rattle.pram_tokens.specs.Lexemes.{value_after}
use Rattle.sized_texts.specs.declared.reason.Reason.{Reason}
use Rattle.sized_texts.specs.declared.reason.Reason.TheVariants as reason
use Rattle.sized_texts.specs.Values.{checked}

-- white space within a line: space, tab and CR
abbrev pub is_space : ℕ → Bool
is_space b = b == 32 || b == 9 || b == 13

-- the text behind white space at its front
abbrev pub past_spaces : List ℕ → List ℕ
past_spaces text = drop (prefix_len is_space text) text

-- the length of the token at the front: the longest run of letters, digits and `_`, or else one byte
abbrev pub token_length : List ℕ → ℕ
token_length [] = 0
token_length (b ∷ rest) = max (prefix_len is_word (b ∷ rest)) 1

-- the token at the front
abbrev pub front : List ℕ → List ℕ
front text = take (token_length text) text

-- what is behind it
abbrev pub behind : List ℕ → List ℕ
behind text = drop (token_length text) text

-- the number that a token is: digits alone
abbrev pub number_of : List ℕ → Result ℕ Reason
number_of token = if are_digits token then checked (value_after 0 token) else Err reason.Unexpected
