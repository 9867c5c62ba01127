-- How a layout's fields show its declarations.
use Rattle.std.specs.Prelude.{◌≡◌, ℕ, ◌+◌, List, [], ◌∷◌, map}
use Rattle.pram_model.specs.declared.layout.Entry as field
use Rattle.pram_model.specs.Layout.{SharedEntry, size, bounds_of, IsSingle}

abbrev pub shown : field.Entry → SharedEntry
shown e = record { name = e.name; bounds = bounds_of e.is_array e.range.low e.range.high }

abbrev pub declared : List field.Entry → List SharedEntry
declared = map shown

-- each declaration's cells begin where those before it end, and all of them end at `cells`
abbrev pub IsNumbered : ℕ → List field.Entry → ℕ → Type 0
IsNumbered at [] cells = at ≡ cells
IsNumbered at (e ∷ es) cells =
    (e.range.first ≡ at) × IsSingle e.is_array e.range.low e.range.high × IsNumbered (at + size (shown e).bounds) es cells
