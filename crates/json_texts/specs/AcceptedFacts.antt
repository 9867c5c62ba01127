-- What JSON says of an accepted program.
use Rattle.std.specs.Prelude.{List, [], ◌∷◌, true, codes}
use Rattle.serde_json.specs.Data.{Data}
use Rattle.json_texts.specs.Facts.{Field, count, flag, object_of, word}
use Rattle.pram_model.specs.Layout.{total_size}
use Rattle.pram_model.specs.Rules.{rule_word}
use Rattle.pram_check.specs.Checked.{Checked}

-- how many cells and processors it has, and its rule
abbrev pub accepted_fields : Checked → List Field
accepted_fields program =
    (codes "accepted", flag true) ∷ (codes "cells", count (total_size program.layout)) ∷ (codes "procs", count program.procs)
    ∷ (codes "rule", word (rule_word program.rule)) ∷ []

abbrev pub accepted_facts : Checked → Data
accepted_facts program = object_of (accepted_fields program)
