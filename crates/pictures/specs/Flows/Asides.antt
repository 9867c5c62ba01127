-- Which reads of each statement of a run stand in a subscript, by the program's body.
use Rattle.std.specs.Prelude.{List, Bool}
use Rattle.pram_names.specs.declared.body.Statement.{Statement}
use Rattle.journal.specs.Entries.{Entry}
use Rattle.pictures.specs.Flows.Subscripts.{statements_at}
use Rattle.pictures.specs.Flows.Choice.{location_in}

-- those of the statement that an entry is of
abbrev pub asides_in : List Statement → Entry → List Bool
asides_in body e = statements_at (location_in e).offset body
