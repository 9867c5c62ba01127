-- Input texts: whole numbers with white space between them.
use Rattle.std.specs.Prelude.{◌≡◌, ℕ, suc, ◌+◌, ◌<◌, ℤ, pos, neg_ℤ, Bool, true, false, not, ◌&&◌, if◌then◌else◌, ◌==◌, nat_le, List, []}
use Rattle.std.specs.Prelude.{◌∷◌, ◌++◌, map, length, Option, Some, None, Result, Ok, Err}
use Rattle.pram_tokens.specs.declared.error.TextFault.{TextFault}
use Rattle.pram_tokens.specs.declared.error.TextFault.TheVariants.{NotAscii, TextTooLong, BadToken, Syntax, TooDeep, OutOfMemory}
use Rattle.pram_tokens.specs.declared.error.LexError.{LexError}
use Rattle.pram_tokens.specs.declared.error.LexError.TheVariants as lex
use Rattle.pram_tokens.specs.Lexemes.{is_blank, largest, value_after}
use Rattle.pram_tokens.specs.Scanning.{longest}
use Rattle.pram_tokens.specs.Plain.{IsFirstOther, IsPlain}
use Rattle.pram_model.specs.Names.{is_digit}

-- a run of bytes without white space, and the offset of the first one
pub record Word : Type 0 where
  pub offset : ℕ
  pub bytes : List ℕ

-- whether a text begins with a byte that is no white space
abbrev pub begins_word : List ℕ → Bool
begins_word [] = false
begins_word (b ∷ rest) = not (is_blank b)

-- A byte before these words: it is the first one of the first word if that follows at once, and else a word by itself.
abbrev pub with_byte : (at b : ℕ) (follows : Bool) → List Word → List Word
with_byte at b true (w ∷ ws) = record { offset = at; bytes = b ∷ w.bytes } ∷ ws
with_byte at b _ ws = record { offset = at; bytes = b ∷ [] } ∷ ws

-- the words of a text that begins at that offset
abbrev pub words : ℕ → List ℕ → List Word
words at [] = []
words at (b ∷ rest) = if is_blank b then words (at + 1) rest else with_byte at b (begins_word rest) (words (at + 1) rest)

-- digits alone
abbrev pub are_digits : List ℕ → Bool
are_digits [] = true
are_digits (b ∷ rest) = is_digit b && are_digits rest

-- at least one digit and nothing else, of a value that is at most that
abbrev pub is_value : ℕ → List ℕ → Bool
is_value most [] = false
is_value most (b ∷ rest) = are_digits (b ∷ rest) && nat_le (value_after 0 (b ∷ rest)) most

-- the number of these digits, up to 9223372036854775807
abbrev pub without_sign : List ℕ → Option ℤ
without_sign digits = if is_value largest digits then Some (pos (value_after 0 digits)) else None

-- the number of these digits behind a minus sign, down to -9223372036854775808
abbrev pub with_minus : List ℕ → Option ℤ
with_minus digits = if is_value (suc largest) digits then Some (neg_ℤ (pos (value_after 0 digits))) else None

-- the number of a word, if it is one: an optional `-`, and digits
abbrev pub number_of : List ℕ → Option ℤ
number_of [] = None
number_of (b ∷ rest) = if b == 45 then with_minus rest else without_sign (b ∷ rest)

-- these words are these numbers
abbrev pub AreNumbers : List Word → List ℤ → Type 0
AreNumbers ws values = map (λ w. number_of w.bytes) ws ≡ map Some values

-- An input of these numbers: at most 1,048,576 bytes below 128, whose words are the numbers.
pub record IsInputOf (text : List ℕ) (values : List ℤ) : Type 0 where
  pub plain : IsPlain text
  pub numbers : AreNumbers (words 0 text) values

-- the first word that is no number
pub record IsFirstWrong (text : List ℕ) (at : ℕ) : Type 0 where
  pub front : List Word
  pub wrong : List ℕ
  pub back : List Word
  pub whole : words 0 text ≡ front ++ record { offset = at; bytes = wrong } ∷ back
  -- the words before it are numbers
  pub values : List ℤ
  pub numbers : AreNumbers front values
  pub none : number_of wrong ≡ None

-- the first word that is no number, in a text that is not too long and has no byte of 128 or more
pub record IsWrongWord (text : List ℕ) (at : ℕ) : Type 0 where
  pub plain : IsPlain text
  pub first : IsFirstWrong text at

-- the answer is those numbers, unless memory was refused
abbrev pub AreAnswer : {X : Type 0} → (X → List ℤ) → List ℤ → Result X TextFault → Type 0
AreAnswer view values (Ok found) = view found ≡ values
AreAnswer view values (Err OutOfMemory) = Unit {0}
AreAnswer view values (Err _) = ⊥

-- Each refusal says what is wrong with the input, in this order: its length, its bytes, its words. Memory is asked for behind the first
-- two.
abbrev pub IsInputFault : {X : Type 0} → List ℕ → Result X TextFault → Type 0
IsInputFault text (Ok x) = Unit {0}
IsInputFault text (Err TextTooLong) = longest < length text
IsInputFault text (Err (NotAscii at)) = IsFirstOther text at
IsInputFault text (Err (BadToken at)) = IsWrongWord text at
IsInputFault text (Err OutOfMemory) = IsPlain text
IsInputFault text (Err (Syntax at)) = ⊥
IsInputFault text (Err (TooDeep at)) = ⊥

-- a word is no number, or memory was refused
abbrev pub IsWrong : List ℕ → LexError → Type 0
IsWrong text lex.OutOfMemory = Unit {0}
IsWrong text (lex.BadToken at) = IsFirstWrong text at
