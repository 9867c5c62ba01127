-- Lines of facts that are put one behind the other, of which the first and the last bytes are kept.
use Rattle.std.specs.Prelude.{◌≡◌, ◌<◌, ◌≤◌, ◌+◌, ◌⊎◌, ℕ, List, drop, length, take}
use Rattle.pages.specs.Cut.{room}
use Rattle.pages.specs.Facts.{BeginsLine, embedded, line_count}
use Rattle.pages.specs.declared.lines.KeptLines.{KeptLines}

-- Of this text the first bytes are kept, as many as a page has room for; those behind some place, which are more than that, or all; where
-- that place is, or a number up to there of more bytes than a page has room for; and how many lines end in it.
pub record Holds (k : KeptLines) (text : List ℕ) : Type 0 where
  pub first : k.first.items ≡ take room text
  pub offset : ℕ
  pub last : k.last.items ≡ drop offset text
  pub within : offset ≤ length text
  pub enough : (offset ≡ 0) ⊎ (room < length k.last.items)
  pub known : (k.before ≡ offset) ⊎ ((room < k.before) × (k.before ≤ offset))
  pub count : k.count ≡ line_count text

-- whole lines that end within the first `most` bytes and have room beside so many others
pub record FitsBeside (text : List ℕ) (most beside front : ℕ) : Type 0 where
  pub within : front ≤ most
  pub begins : BeginsLine text front
  pub fits : length (embedded (take front text)) + beside ≤ room

-- as many as have
pub record IsLongest (text : List ℕ) (most beside front : ℕ) : Type 0 where
  pub are : FitsBeside text most beside front
  pub longest : (n : ℕ) → FitsBeside text most beside n → n ≤ front

-- So many lines are the bytes up to that place; or fewer end in these bytes, and the place is behind all that a page has room for.
abbrev pub AreLinesTo : (bytes : List ℕ) → (lines at : ℕ) → Type 0
AreLinesTo bytes lines at =
    ((line_count bytes < lines) × (at ≡ room + 1)) ⊎ ((at ≤ length bytes) × BeginsLine bytes at × (line_count (take at bytes) ≡ lines))
