-- How values are written.
use Rattle.std.specs.Prelude.{ℕ, List, ◌++◌, codes}
use Rattle.std.specs.Fmt.{signed_decimal}
use Rattle.journal.specs.declared.change.Change.{Change}

-- those before and behind a statement: ` 4 -> 7`
abbrev pub value_text : Change → List ℕ
value_text d = codes " " ++ (signed_decimal d.before ++ (codes " -> " ++ signed_decimal d.after))
