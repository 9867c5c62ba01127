-- Which bytes may be cut into tokens, and what is wrong with any others.
use Rattle.std.specs.Prelude.{◌≡◌, ℕ, ◌≤◌, ◌<◌, List, length, slice_index, Err}
use Rattle.pram_tokens.specs.Scanning.{cut_of, longest}

-- the first so many bytes are below 128
abbrev pub IsAsciiTo : List ℕ → ℕ → Type 0
IsAsciiTo text count = (k : ℕ) → k < count → slice_index text k < 128

-- A text that may be cut into tokens: at most 1,048,576 bytes, all of them below 128.
pub record IsPlain (text : List ℕ) : Type 0 where
  pub fits : length text ≤ longest
  pub ascii : IsAsciiTo text (length text)

-- The first byte of 128 or more stands at that offset, in a text that is not too long.
pub record IsFirstOther (text : List ℕ) (at : ℕ) : Type 0 where
  pub fits : length text ≤ longest
  pub inside : at < length text
  pub other : 128 ≤ slice_index text at
  pub before : IsAsciiTo text at

-- the first thing that is no token stands at that offset
pub record IsFirstBad (text : List ℕ) (at : ℕ) : Type 0 where
  pub plain : IsPlain text
  pub bad : cut_of text ≡ Err at
