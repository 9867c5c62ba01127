-- How an outcome is written: each output item on a line, then how the run came out.
use Rattle.std.specs.Prelude.{ℕ, ◌-◌, nat_lt, ℤ, pos, ◌+ℤ◌, List, [], ◌∷◌, ◌++◌, Option, Some, None, if◌then◌else◌, codes, take, drop}
use Rattle.std.specs.Prelude.{decimal}
use Rattle.std.specs.Fmt.{signed_decimal}
use Rattle.pram_model.specs.Layout.{SharedEntry, size}
use Rattle.pram_values.specs.declared.kind.Kind.{Kind}
use Rattle.pram_values.specs.declared.kind.Kind.TheVariants as kind
use Rattle.pram_values.specs.declared.place.Place.{Place}
use Rattle.pram_values.specs.declared.place.Place.TheVariants as place
use Rattle.write_rules.specs.declared.fault.Fault.{Fault}
use Rattle.write_rules.specs.Verdict.{Verdict, Ended, Faulted, GoesOn}

-- a text and the end of its line
abbrev pub line : List ℕ → List ℕ
line text = text ++ 10 ∷ []

-- each item in decimal on a line
abbrev pub item_lines : List ℤ → List ℕ
item_lines [] = []
item_lines (v ∷ vs) = line (signed_decimal v) ++ item_lines vs

-- each value behind a space
abbrev pub spaced : List ℤ → List ℕ
spaced [] = []
spaced (v ∷ vs) = codes " " ++ (signed_decimal v ++ spaced vs)

-- the bounds of an array, and nothing for a single cell
abbrev pub bounds_text : Option (ℤ × ℤ) → List ℕ
bounds_text None = []
bounds_text (Some (low, high)) = codes "[" ++ (signed_decimal low ++ (codes ".." ++ (signed_decimal high ++ codes "]")))

-- the values of a declaration's cells: `s = 7`, or `a[1..4] = 4 3 2 1`
abbrev pub entry_line : SharedEntry → List ℤ → List ℕ
entry_line e values = line (e.name ++ (bounds_text e.bounds ++ (codes " =" ++ spaced values)))

-- the values of all cells, a line for each declaration
abbrev pub memory_lines : List SharedEntry → List ℤ → List ℕ
memory_lines [] memory = []
memory_lines (e ∷ es) memory = entry_line e (take (size e.bounds) memory) ++ memory_lines es (drop (size e.bounds) memory)

-- the subscript of the cell of that number among those of an array, and nothing for a single cell
abbrev pub subscript_text : Option (ℤ × ℤ) → ℕ → List ℕ
subscript_text None k = []
subscript_text (Some (low, high)) k = codes "[" ++ (signed_decimal (low +ℤ pos k) ++ codes "]")

-- a cell by its number among those of all declarations: `s`, or `a[2]`
abbrev pub cell_text : List SharedEntry → ℕ → List ℕ
cell_text [] k = []
cell_text (e ∷ es) k = if nat_lt k (size e.bounds) then e.name ++ subscript_text e.bounds k else cell_text es (k - size e.bounds)

abbrev pub kind_text : Kind → List ℕ
kind_text kind.Overflow = codes "overflow"
kind_text kind.DivideByZero = codes "divide-by-zero"
kind_text kind.OutOfRange = codes "out-of-range"
kind_text kind.TooWide = codes "too-wide"
kind_text kind.ReadConflict = codes "read-conflict"
kind_text kind.WriteConflict = codes "write-conflict"

abbrev pub place_text : List SharedEntry → Place → List ℕ
place_text layout place.All = codes "all"
place_text layout (place.Processor i) = codes "processor " ++ signed_decimal i
place_text layout (place.Cell c) = cell_text layout c

-- `fault read-conflict a[1] line 4`
abbrev pub fault_text : List SharedEntry → Fault → List ℕ
fault_text layout f = codes "fault "
    ++ (kind_text f.kind ++ (codes " " ++ (place_text layout f.place ++ (codes " line " ++ decimal f.line))))

-- what `show` writes
abbrev pub shown : List SharedEntry → Verdict → List ℕ
shown layout (Ended output memory) = item_lines output ++ (line (codes "ended") ++ memory_lines layout memory)
shown layout (Faulted fault output) = item_lines output ++ line (fault_text layout fault)
shown layout (GoesOn output) = item_lines output ++ line (codes "goes on")
