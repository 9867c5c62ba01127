-- Sizes as words of a command line: `NAME=VALUE`.
use Rattle.std.specs.Prelude.{◌≡◌, ℕ, ◌<◌, ◌==◌, true, if◌then◌else◌, List, [], ◌∷◌, ◌++◌, length, take, drop}
use Rattle.std.specs.Prelude.{Option, Some, None}
use Rattle.std.specs.List.{prefix_len}
use Rattle.std.specs.Result.{result_ok}
use Rattle.pram_model.specs.Names.{are_words, is_word}
use Rattle.pram_tokens.specs.Input.{is_value}
use Rattle.pram_tokens.specs.Lexemes.{largest, value_after}
use Rattle.sized_texts.specs.declared.size.Size.{Size}
use Rattle.sized_texts.specs.Front.{number_of}

-- A word is that of a size: its name, which has letters, digits and `_` alone, one at least, then `=`, then digits of its value, which is
-- at most 9223372036854775807.
pub record IsSizeWord (word : List ℕ) (size : Size) : Type 0 where
  pub digits : List ℕ
  pub parts : word ≡ size.name ++ 61 ∷ digits
  pub named : 0 < length size.name
  pub words : are_words size.name ≡ true
  pub number : is_value largest digits ≡ true
  pub value : size.value ≡ value_after 0 digits

-- the size whose word it is, or that it is the word of no size
abbrev pub IsSizeOf : List ℕ → Option Size → Type 0
IsSizeOf word (Some size) = IsSizeWord word size
IsSizeOf word None = (size : Size) → ¬ (IsSizeWord word size)

-- the number of a text that is digits alone, one at least
abbrev pub digits_value : List ℕ → Option ℕ
digits_value [] = None
digits_value (b ∷ rest) = result_ok (number_of (b ∷ rest))

-- the number behind the `=` that a text begins with
abbrev pub equals_value : List ℕ → Option ℕ
equals_value [] = None
equals_value (b ∷ digits) = if b == 61 then digits_value digits else None

-- the value of a word whose name is that, before the rest of it
abbrev pub value_by : (name rest : List ℕ) → Option ℕ
value_by [] rest = None
value_by (b ∷ name) rest = equals_value rest

-- the name and the rest of a word
abbrev pub name_of : List ℕ → List ℕ
name_of word = take (prefix_len is_word word) word

abbrev pub rest_of : List ℕ → List ℕ
rest_of word = drop (prefix_len is_word word) word
