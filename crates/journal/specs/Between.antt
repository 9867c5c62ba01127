-- The entries of a run from one number to another, and how they are kept as they come.
use Rattle.std.specs.Prelude.{◌≡◌, ◌+◌, ◌-◌, ℕ, List, ◌++◌, drop, length, take}
use Rattle.journal.specs.Entries.{Entry}

-- those whose numbers, counted from 1, go from `first` to `last`
abbrev pub between : (first last : ℕ) → List Entry → List Entry
between first last es = take (last - (first - 1)) (drop (first - 1) es)

-- these entries have passed: they are counted, and where those from `first` to `last` of the ones before were kept, these are now of all
pub record KeepsBetween (first last count late : ℕ) (old new : List Entry) (es : List Entry) : Type 0 where
  pub counted : late ≡ count + length es
  pub kept : (before : List Entry) → length before ≡ count → old ≡ between first last before → new ≡ between first last (before ++ es)
