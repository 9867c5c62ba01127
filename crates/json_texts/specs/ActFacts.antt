-- What JSON says of what processors did in a statement.
use Rattle.std.specs.Prelude.{ℕ, ℤ, List, [], ◌∷◌, Option, Some, None, codes, map}
use Rattle.serde_json.specs.Data.{Data, null}
use Rattle.json_texts.specs.Facts.{count, letters, list, object_of, value}
use Rattle.pram_model.specs.Layout.{SharedEntry}
use Rattle.program_texts.specs.Shown.{cell_text}
use Rattle.journal.specs.declared.reading.Reading.{Reading}
use Rattle.journal.specs.Entries.{Act}

-- the index of a processor, and null of the one outside pardo
abbrev pub processor_fact : Option ℤ → Data
processor_fact None = null
processor_fact (Some i) = value i

abbrev pub cell_fact : List SharedEntry → ℕ → Data
cell_fact layout c = letters (cell_text layout c)

-- the cell that is written, and null where none is
abbrev pub write_fact : List SharedEntry → Option ℕ → Data
write_fact layout None = null
write_fact layout (Some c) = cell_fact layout c

-- the position of a read, and what it gave
abbrev pub position_fact : Reading → Data
position_fact r = count r.position

abbrev pub value_fact : Reading → Data
value_fact r = value r.value

-- what is written, and null where nothing is
abbrev pub written_fact : Option ℤ → Data
written_fact None = null
written_fact (Some v) = value v

-- what one processor did: the cells that it read, in order, with the position of each and what it gave, and the cell that it wrote, with
-- what it wrote there
abbrev pub act_facts : List SharedEntry → Act → Data
act_facts layout a = object_of
    ((codes "processor", processor_fact a.processor) ∷ (codes "reads", list (map (cell_fact layout) a.reads))
    ∷ (codes "positions", list (map position_fact a.readings)) ∷ (codes "values", list (map value_fact a.readings))
    ∷ (codes "write", write_fact layout a.write) ∷ (codes "written", written_fact a.written) ∷ [])
