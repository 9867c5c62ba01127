-- The parts of a declaration's line. A tool of the proofs.
use Rattle.std.specs.Prelude.{ℕ, ℤ, Option, Some, None, List, codes, Bool}
use Rattle.superstep_listing.specs.declared.entry_line.Kind.{Kind}
use Rattle.superstep_listing.specs.declared.entry_line.Kind.TheVariants.{Cell, Array}
use Rattle.std.specs.Prelude.{◌≡◌}
use Rattle.std.specs.List.{list_any}
use Rattle.std.specs.Str.{bytes_eq}
use Rattle.pram_model.specs.Layout.{SharedEntry}
use Rattle.superstep_instructions.specs.Limits.{AreBounds, names_of}

-- the first word of a declaration
abbrev pub kind_word : Kind → List ℕ
kind_word Cell = codes "cell"
kind_word Array = codes "array"

-- the bounds of an array, of which that holds
abbrev pub AreArray : Option (ℤ × ℤ) → (ℤ → ℤ → Type 0) → Type 0
AreArray None P = ⊥
AreArray (Some (low, high)) P = AreBounds (Some (low, high)) × P low high

-- a test that tells the names of these declarations from all others
abbrev pub AreKnown : (List ℕ → Bool) → List SharedEntry → Type 0
AreKnown has es = (name : List ℕ) → has name ≡ list_any (λ other. bytes_eq name other) (names_of es)
