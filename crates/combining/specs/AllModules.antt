-- The words of all modules at once, a column for each.
use Rattle.std.specs.Prelude.{◌≡◌, ◌≢◌, ℕ, ◌+◌, ◌<◌, ◌≤◌, List, [], ◌++◌, length, get_or}

-- a column, and the room of one
abbrev pub column : List (List ℕ) → ℕ → List ℕ
column columns j = get_or columns j []

abbrev pub room_at : List ℕ → ℕ → ℕ
room_at rooms j = get_or rooms j 0

-- each of p columns has room for the words that are for its module, behind what it holds, ..
abbrev pub HasRoomFor : ℕ → (ℕ → List ℕ) → List (List ℕ) → List ℕ → Type 0
HasRoomFor p words columns rooms = (j : ℕ) → j < p → length (column columns j) + length (words j) ≤ room_at rooms j

-- .. and gets them
abbrev pub HasGot : ℕ → (ℕ → List ℕ) → List (List ℕ) → List (List ℕ) → Type 0
HasGot p words old new = (j : ℕ) → j < p → column new j ≡ column old j ++ words j

-- A column gets the first of the words that are still to come for it, behind what it holds: of what was to come for each column, the words
-- behind them are, and for the others it is the same.
pub record GetsFirst (home : ℕ) (before after : ℕ → List ℕ) (old new : List ℕ) : Type 0 where
  pub got : new ++ after home ≡ old ++ before home
  pub others : (j : ℕ) → home ≢ j → after j ≡ before j
