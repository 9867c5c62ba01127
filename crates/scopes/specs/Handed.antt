-- What is handed on to a postcondition.
use Rattle.std.specs.Prelude.{◌≡◌, ℕ, ◌+◌, Bool, true, false, not, ◌&&◌, Option, Some, None, List, [], ◌∷◌, ◌++◌, ℤ, pos, map}
use Rattle.std.specs.Prelude.{take, drop, replicate, codes, if◌then◌else◌}
use Rattle.std.specs.List.{find, flat_map}
use Rattle.std.specs.Option.{option_map}
use Rattle.std.specs.Ordering.{int_eq}
use Rattle.pram_check.specs.Checked.{Checked}
use Rattle.pram_meaning.specs.Outcome.{opening}
use Rattle.pram_model.specs.Layout.{SharedEntry, size, total_size}
use Rattle.pram_model.specs.Names.{same_text}
use Rattle.scopes.specs.declared.sources.Origin.{Origin}

-- a declaration, and the number of its first cell
pub record Placed : Type 0 where
  pub entry : SharedEntry
  pub start : ℕ

-- declarations in order, where the cells are numbered on from a number
abbrev pub placed : ℕ → List SharedEntry → List Placed
placed start [] = []
placed start (e ∷ es) = record { entry = e; start = start } ∷ placed (start + size e.bounds) es

-- a declaration stands there, with its cells from that number on
abbrev pub StandsAt : List SharedEntry → SharedEntry → (start : ℕ) → Type 0
StandsAt l e start =
    (before : List SharedEntry) × (behind : List SharedEntry) × (l ≡ before ++ e ∷ behind) × (start ≡ total_size before)

-- a declaration under the name opening_NAME
abbrev pub opened : SharedEntry → SharedEntry
opened e = record { name = codes "opening_" ++ e.name; bounds = e.bounds }

-- what a postcondition may declare: the declarations of the program, and behind them each once more as opening_NAME
abbrev pub offered : List SharedEntry → List SharedEntry
offered layout = layout ++ map opened layout

abbrev pub is_named : List ℕ → Placed → Bool
is_named name q = same_text q.entry.name name

abbrev pub origin_of : Placed → Origin
origin_of q = record { start = q.start; bounds = q.entry.bounds }

-- from where a declaration of a name gets its cells: the first of these that has that name
abbrev pub source : List SharedEntry → List ℕ → Option Origin
source layout name = option_map origin_of (find (is_named name) (placed 0 (offered layout)))

abbrev pub same_bounds : Option (ℤ × ℤ) → Option (ℤ × ℤ) → Bool
same_bounds None None = true
same_bounds None (Some b) = false
same_bounds (Some a) None = false
same_bounds (Some (low, high)) (Some (from, to)) = int_eq low from && int_eq high to

-- the cells that a declaration of some bounds gets: those of its source, where that has the same bounds; else zeros
abbrev pub cells_by : List ℤ → Option (ℤ × ℤ) → Option Origin → List ℤ
cells_by cells bounds None = replicate (size bounds) (pos 0)
cells_by cells bounds (Some s) =
    if same_bounds s.bounds bounds then take (size bounds) (drop s.start cells) else replicate (size bounds) (pos 0)

-- the cells of all declarations of a postcondition, by what the program left and, behind that, what it held before
abbrev pub handed : List SharedEntry → List ℤ → List SharedEntry → List ℤ
handed layout cells post = flat_map (λ e. cells_by cells e.bounds (source layout e.name)) post

-- the input of a postcondition, where the program's run on an input left these cells
abbrev pub handed_on : (p q : Checked) → (input left : List ℤ) → List ℤ
handed_on p q input left = handed p.layout (left ++ (opening p input).cells) q.layout

-- a declaration whose source has other bounds
abbrev pub differs : Option (ℤ × ℤ) → Option Origin → Bool
differs bounds None = false
differs bounds (Some s) = not (same_bounds s.bounds bounds)

abbrev pub is_unlike : List SharedEntry → SharedEntry → Bool
is_unlike layout e = differs e.bounds (source layout e.name)
