-- What two programs both declare: the declarations of one name with the same bounds, and their cells.
use Rattle.std.specs.Prelude.{◌≡◌, ℕ, Bool, ◌&&◌, List, [], ◌∷◌, ◌++◌, Option, map, min, take, if◌then◌else◌}
use Rattle.std.specs.List.{filter_map, find}
use Rattle.std.specs.Option.{option_map, unwrap_or}
use Rattle.pram_model.specs.Layout.{SharedEntry, size, total_size}
use Rattle.pram_model.specs.Names.{same_text}
use Rattle.scopes.specs.Handed.{Placed, placed, same_bounds}
use Rattle.comparing.specs.declared.compared.CommonRange.{CommonRange}

-- ---- one declaration

-- of one name, with the same bounds
abbrev pub same_entry : SharedEntry → SharedEntry → Bool
same_entry e f = same_text e.name f.name && same_bounds e.bounds f.bounds

-- ---- what both declare

-- a declaration, and its cells in both
pub record Shared : Type 0 where
  pub entry : SharedEntry
  pub range : CommonRange

abbrev pub range_of : Shared → CommonRange
range_of s = s.range

abbrev pub both : Placed → Placed → Shared
both p q = record { entry = p.entry; range = record { first_start = p.start; second_start = q.start; length = size p.entry.bounds } }

-- the same among the declarations of another program
abbrev pub shared_with : List SharedEntry → Placed → Option Shared
shared_with second p = option_map (both p) (find (λ q. same_entry p.entry q.entry) (placed 0 second))

-- the declarations that both have, in the order of the first
abbrev pub shared : (first second : List SharedEntry) → List Shared
shared first second = filter_map (shared_with second) (placed 0 first)

abbrev pub common : (first second : List SharedEntry) → List CommonRange
common first second = map range_of (shared first second)

-- the cells of a declaration beside those of the same in another program, or, where that has none, beside those behind its last cell
abbrev pub beside_none : List SharedEntry → Placed → CommonRange
beside_none second p = record { first_start = p.start; second_start = total_size second; length = size p.entry.bounds }

abbrev pub range_or_none : List SharedEntry → Placed → CommonRange
range_or_none second p = unwrap_or (option_map range_of (shared_with second p)) (beside_none second p)

-- those of all declarations of the first
abbrev pub whole : (first second : List SharedEntry) → List CommonRange
whole first second = map (range_or_none second) (placed 0 first)

-- that of a name
abbrev pub is_named : List ℕ → Shared → Bool
is_named name s = same_text s.entry.name name

abbrev pub common_named : (first second : List SharedEntry) → List ℕ → Option CommonRange
common_named first second name = option_map range_of (find (is_named name) (shared first second))

-- ---- where both begin

-- the declarations with which both begin: the longest beginning that they have in common
abbrev pub front : (first second : List SharedEntry) → List SharedEntry
front [] second = []
front (e ∷ es) [] = []
front (e ∷ es) (f ∷ fs) = if same_entry e f then e ∷ front es fs else []

-- the cells of these, which have the same numbers in both
abbrev pub front_cells : (first second : List SharedEntry) → ℕ
front_cells first second = total_size (front first second)

-- the same, as far as the first so many declarations reach
abbrev pub first_front_cells : (declarations : ℕ) → (first second : List SharedEntry) → ℕ
first_front_cells declarations first second = min (front_cells first second) (total_size (take declarations first))

abbrev pub IsBeginning : (before all : List SharedEntry) → Type 0
IsBeginning before all = (behind : List SharedEntry) × (all ≡ before ++ behind)
