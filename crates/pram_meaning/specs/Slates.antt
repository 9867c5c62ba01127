-- What a slate keeps: writes, cell by cell.
use Rattle.std.specs.Prelude.{◌≡◌, ◌≢◌, ◌<◌, ◌++◌, ℕ, List, [], ◌∷◌, map, length, nat_eq, if◌then◌else◌, slice_index_or}
use Rattle.pram_meaning.specs.Accesses.{writes_for}
use Rattle.write_rules.specs.declared.write.Write.{Write}
use Rattle.pram_meaning.specs.declared.access.Access.{Access}
use Rattle.pram_meaning.specs.declared.slate as rust

-- the writes to one cell
pub record Group : Type 0 where
  pub cell : ℕ
  pub writes : List Write

abbrev pub group_is : rust.Group.Group → Group
group_is g = record { cell = g.cell; writes = g.writes.items }

abbrev pub groups_of : rust.Slate.Slate → List Group
groups_of s = map group_is s.groups.items

abbrev pub writes_in : ℕ → Group → List Write
writes_in c g = if nat_eq c g.cell then g.writes else []

abbrev pub no_writes : ℕ → Group
no_writes c = record { cell = c; writes = [] }

-- the place counts only if the group there is that of the cell
abbrev pub kept_in : List ℕ → List Group → ℕ → List Write
kept_in places groups c = writes_in c (slice_index_or groups (slice_index_or places c (length groups)) (no_writes c))

-- the writes to a cell
abbrev pub kept : rust.Slate.Slate → ℕ → List Write
kept s = kept_in s.places.items (groups_of s)

-- the group of a cell stands at this place
pub record IsPlace (s : rust.Slate.Slate) (c place : ℕ) : Type 0 where
  pub named : slice_index_or s.places.items c (length s.groups.items) ≡ place
  pub inside : place < length s.groups.items
  pub own : (slice_index_or (groups_of s) place (no_writes c)).cell ≡ c

-- the cell c alone has got the place e, which is also that of cells without one
pub record IsMarked (c e : ℕ) (old new : List ℕ) : Type 0 where
  pub inside : c < length new
  pub here : slice_index_or new c e ≡ e
  pub others : (d : ℕ) → d ≢ c → slice_index_or new d e ≡ slice_index_or old d e

-- one more write to the cell c
pub record IsMore (c : ℕ) (w : Write) (old new : rust.Slate.Slate) : Type 0 where
  pub more : (d : ℕ) → kept new d ≡ kept old d ++ (if nat_eq d c then w ∷ [] else [])

-- the writes of these accesses and no others
pub record IsGathered (all : List Access) (s : rust.Slate.Slate) : Type 0 where
  pub each : (c : ℕ) → kept s c ≡ writes_for c all
