-- The lines of a text and of its expansion.
use Rattle.std.specs.Prelude.{◌≡◌, ℕ, ◌<◌, List, length, take, slice_index, Ok}
use Rattle.pram_tokens.specs.Scanning.{line_after}
use Rattle.sized_texts.specs.declared.size.Size.{Size}
use Rattle.sized_texts.specs.Expansion.{expansion}
use Rattle.sized_texts.specs.Pieces.{Expansion}

-- the line of the byte at an offset, as tokens have it: the first byte stands in line 1
abbrev pub line_at : List ℕ → ℕ → ℕ
line_at text k = line_after 1 (take k text)

-- An expansion has as many lines as its text, and each byte stands in the line of the place that it came from.
pub record HasLinesOf (text : List ℕ) (e : Expansion) : Type 0 where
  pub all : line_after 1 e.text ≡ line_after 1 text
  pub places : length e.places ≡ length e.text
  pub within : (k : ℕ) → k < length e.text → slice_index e.places k < length text
  pub lines : (k : ℕ) → k < length e.text → line_at e.text k ≡ line_at text (slice_index e.places k)

-- each expansion has the lines of its text
abbrev pub LinesAreKept : Type 0
LinesAreKept = (given : List Size) (text : List ℕ) (e : Expansion) → expansion given text ≡ Ok e → HasLinesOf text e
