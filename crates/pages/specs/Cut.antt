-- Which lines of facts stand in a page where not all have room: the first and the last.
use Rattle.std.specs.Prelude.{◌≤◌, ◌<◌, ◌+◌, ◌-◌, ◌⊎◌, ℕ, Bool, if◌then◌else◌, List, Option, Some, None, drop, length, nat_le}
use Rattle.std.specs.Prelude.{take}
use Rattle.pages.specs.Facts.{BeginsLine, embedded, line_count}

-- the most bytes that facts have in a page, and of these the most that the last lines have, if they are more than one
abbrev pub room : ℕ
room = 1792000

abbrev pub half : ℕ
half = 896000

abbrev pub limit : (has_line : Bool) → ℕ
limit has_line = if has_line then half else room

-- whole lines from a place to the end, that have no more than so many bytes in a page
pub record AreLast (facts : List ℕ) (most at : ℕ) : Type 0 where
  pub within : at < length facts
  pub begins : BeginsLine facts at
  pub fits : length (embedded (drop at facts)) ≤ most

-- no line begins behind the one that begins there
abbrev pub IsLastLine : List ℕ → ℕ → Type 0
IsLastLine facts at = (n : ℕ) → at < n → n < length facts → BeginsLine facts n → ⊥

-- The last lines that stand in a page: as many as have half the room, and the last one of all if it has room alone.
pub record IsBack (facts : List ℕ) (back : ℕ) : Type 0 where
  pub within : back ≤ length facts
  pub begins : back < length facts → BeginsLine facts back
  pub fits : length (embedded (drop back facts)) ≤ room
  pub few : (length (embedded (drop back facts)) ≤ half) ⊎ IsLastLine facts back
  pub most : (n : ℕ) → AreLast facts half n → back ≤ n
  pub last : (n : ℕ) → AreLast facts room n → IsLastLine facts n → back ≤ n

-- whole lines up to a place, that have room beside the last ones
pub record AreFirst (facts : List ℕ) (back front : ℕ) : Type 0 where
  pub within : front ≤ back
  pub begins : BeginsLine facts front
  pub fits : length (embedded (take front facts)) + length (embedded (drop back facts)) ≤ room

-- as many as have
pub record IsFront (facts : List ℕ) (back front : ℕ) : Type 0 where
  pub are : AreFirst facts back front
  pub most : (n : ℕ) → AreFirst facts back n → n ≤ front

-- The lines before `front` and those from `back` on stand in a page: all, where all have room.
pub record IsCut (facts : List ℕ) (front back : ℕ) : Type 0 where
  pub last : IsBack facts back
  pub first : IsFront facts back front

-- the number of the last statement that is left out, if some are, where the lines end with that of statement `last` and that of the outcome
abbrev pub gap_end : (facts : List ℕ) → (front back last : ℕ) → Option ℕ
gap_end facts front back last = if nat_le back front then None else Some (last - (line_count (drop back facts) - 1))
