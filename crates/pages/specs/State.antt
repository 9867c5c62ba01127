-- What cells and uniform variables hold behind a statement, and how many numbers were printed up to there, as facts.
use Rattle.std.specs.Prelude.{ℕ, ℤ, List, [], ◌∷◌, codes, take}
use Rattle.std.specs.List.{fold}
use Rattle.serde_json.specs.Data.{Data}
use Rattle.json_texts.specs.Facts.{Field, count, object_of, values}
use Rattle.journal.specs.Entries.{Entry}
use Rattle.journal.specs.Replay.{with_cells, with_printed, with_variables}

-- these behind statement `k`, up to which so many numbers were printed
abbrev pub state_fields : (cells variables : List ℤ) → (printed k : ℕ) → List Field
state_fields cells variables printed k =
    (codes "state", count k) ∷ (codes "cells", values cells) ∷ (codes "variables", values variables)
    ∷ (codes "printed", count printed) ∷ []

abbrev pub state_of : (cells variables : List ℤ) → (printed k : ℕ) → Data
state_of cells variables printed k = object_of (state_fields cells variables printed k)

-- of a run on this input, behind its first `k` statements
abbrev pub state_facts : (input : List ℤ) → List Entry → (k : ℕ) → Data
state_facts input entries k =
    state_of (fold with_cells input (take k entries)) (fold with_variables [] (take k entries)) (fold with_printed 0 (take k entries)) k
