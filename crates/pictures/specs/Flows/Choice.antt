-- Which statements of a run are drawn.
use Rattle.std.specs.Prelude.{ℕ, ◌-◌, nat_le, nat_lt, Bool, true, false, not, ◌&&◌, ◌||◌, List, [], ◌∷◌, ◌++◌, length, take}
use Rattle.std.specs.List.{enumerate_from, filter, list_any}
use Rattle.std.specs.Option.{is_some}
use Rattle.pram_tokens.specs.declared.token.Location.{Location}
use Rattle.journal.specs.declared.change.Change.{Change}
use Rattle.journal.specs.Entries.{Act, Entry, Ran, Faulting}
use Rattle.pictures.specs.Acts.{acts_in}

-- ---- the parts of an entry

-- a statement that faulted has changed nothing
abbrev pub changes_in : Entry → List Change
changes_in (Ran here acts cells variables locals printed) = cells
changes_in (Faulting here fault cause acts met locals) = []

abbrev pub location_in : Entry → Location
location_in (Ran here acts cells variables locals printed) = here
location_in (Faulting here fault cause acts met locals) = here

abbrev pub is_fault : Entry → Bool
is_fault (Ran here acts cells variables locals printed) = false
is_fault (Faulting here fault cause acts met locals) = true

-- whether a processor read or wrote shared memory
abbrev pub is_access : Act → Bool
is_access a = nat_lt 0 (length a.reads) || is_some a.write

-- whether a statement touched shared memory, or faulted
abbrev pub touches : Entry → Bool
touches e = is_fault e || list_any is_access (acts_in e)

-- ---- statements, with their numbers from 1

-- from one number to another
abbrev pub is_asked : (from to number : ℕ) → Bool
is_asked from to number = nat_le from number && nat_le number to

-- that touched shared memory, or faulted
abbrev pub is_touching : (from to : ℕ) → ℕ × Entry → Bool
is_touching from to p = is_asked from to p.0 && touches p.1

-- that touched it, and didn't fault
abbrev pub is_ran : (from to : ℕ) → ℕ × Entry → Bool
is_ran from to p = is_asked from to p.0 && (touches p.1 && not (is_fault p.1))

-- that faulted
abbrev pub is_faulted : (from to : ℕ) → ℕ × Entry → Bool
is_faulted from to p = is_asked from to p.0 && is_fault p.1

abbrev pub touching : (from to : ℕ) → List Entry → List (ℕ × Entry)
touching from to es = filter (is_touching from to) (enumerate_from 1 es)

abbrev pub ran : (from to : ℕ) → List Entry → List (ℕ × Entry)
ran from to es = filter (is_ran from to) (enumerate_from 1 es)

abbrev pub faulted : (from to : ℕ) → List Entry → List (ℕ × Entry)
faulted from to es = filter (is_faulted from to) (enumerate_from 1 es)

-- one that faulted is always among the 64
abbrev pub drawn : (from to : ℕ) → List Entry → List (ℕ × Entry)
drawn from to es = take (64 - length (faulted from to es)) (ran from to es) ++ faulted from to es

-- how many stand before the first of some
abbrev pub number_before : List (ℕ × Entry) → ℕ
number_before [] = 0
number_before (p ∷ ps) = p.0 - 1
