-- What JSON says of why a statement faults.
use Rattle.std.specs.Prelude.{ℕ, ℤ, List, [], ◌∷◌, Option, Some, None, codes, map, slice_get}
use Rattle.serde_json.specs.Data.{Data}
use Rattle.json_texts.specs.Facts.{Field, count, letters, list, object_of, value, values}
use Rattle.pram_model.specs.Layout.{SharedEntry, subscripts}
use Rattle.pram_printer.specs.Spelling.{binary_text, prefix_text}
use Rattle.write_rules.specs.declared.write.Write.{Write}
use Rattle.journal.specs.Causes.{Before, Between, Beyond, Cause, Meeting, Wide, Writing}

-- a write: the index of the processor, and its value
abbrev pub write_facts : Write → Data
write_facts w = object_of ((codes "processor", value w.processor) ∷ (codes "value", value w.value) ∷ [])

-- a subscript that an array has not: the array's name, and the least and the greatest that it has
abbrev pub array_fields : List ℕ → (subscript low high : ℤ) → List Field
array_fields name z low high =
    (codes "array", letters name) ∷ (codes "subscript", value z) ∷ (codes "low", value low) ∷ (codes "high", value high) ∷ []

-- that of a declaration
abbrev pub beyond_fields : ℤ → Option SharedEntry → List Field
beyond_fields z None = []
beyond_fields z (Some e) = array_fields e.name z (subscripts e.bounds).0 (subscripts e.bounds).1

-- the operation and its operands, the subscript, the range and how many processors there may be, or the writes; of conflicting reads
-- nothing, since those that met are told
abbrev pub why_fields : List SharedEntry → Cause → List Field
why_fields layout (Between x o y) = (codes "operator", letters (binary_text o)) ∷ (codes "operands", values (x ∷ y ∷ [])) ∷ []
why_fields layout (Before o x) = (codes "operator", letters (prefix_text o)) ∷ (codes "operands", values (x ∷ [])) ∷ []
why_fields layout (Beyond a z) = beyond_fields z (slice_get layout a)
why_fields layout (Wide a b procs) = (codes "low", value a) ∷ (codes "high", value b) ∷ (codes "procs", count procs) ∷ []
why_fields layout Meeting = []
why_fields layout (Writing ws) = (codes "writers", list (map write_facts ws)) ∷ []

-- that of a cause that is known
abbrev pub known_fields : List SharedEntry → Option Cause → List Field
known_fields layout None = []
known_fields layout (Some c) = why_fields layout c
