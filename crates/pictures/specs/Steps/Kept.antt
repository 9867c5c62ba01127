-- What is kept of entries for their picture, and how it is kept as they come.
use Rattle.std.specs.Prelude.{◌≡◌, ◌<◌, ◌+◌, ◌-◌, ◌⊎◌, ℕ, List, ◌++◌, drop, if◌then◌else◌, length, map, nat_lt, take}
use Rattle.journal.specs.Between.{between}
use Rattle.journal.specs.Entries.{Entry, entry_is}
use Rattle.pictures.specs.declared.steps.excerpt.Excerpt.{Excerpt}

-- These have the same first 96 and the same last 16 as those: they are those, or both are more than 112.
pub record StandFor (kept es : List Entry) : Type 0 where
  pub first : take 96 kept ≡ take 96 es
  pub last : drop (length kept - 16) kept ≡ drop (length es - 16) es
  pub whole : (kept ≡ es) ⊎ ((112 < length kept) × (112 < length es))

-- so they are with one more, for which this makes room
abbrev pub with_room : {A : Type 0} → List A → List A
with_room xs = if nat_lt 112 (length xs) then take 96 xs ++ drop 97 xs else xs

-- so are the entries that are kept of these, which are counted
pub record Keeps (x : Excerpt) (es : List Entry) : Type 0 where
  pub stand : StandFor (map entry_is x.entries.items) es
  pub counted : x.count ≡ length es

-- these entries have passed: they are counted, and where it was kept of those from `first` to `last` of the ones before, it is now of all
pub record KeepsAsked (first last count late : ℕ) (old new : Excerpt) (es : List Entry) : Type 0 where
  pub counted : late ≡ count + length es
  pub kept : (before : List Entry) → length before ≡ count → Keeps old (between first last before) →
      Keeps new (between first last (before ++ es))
