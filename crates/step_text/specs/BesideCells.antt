-- What is told of a statement that ran beside its cells: the uniform variables and the local that it set, and what it printed.
use Rattle.std.specs.Prelude.{ℕ, ◌-◌, nat_eq, nat_le, if◌then◌else◌, List, [], ◌∷◌, ◌++◌, ℤ, Option, Some, None, codes, decimal}
use Rattle.std.specs.Prelude.{length, take}
use Rattle.std.specs.Borrow.{Bor}
use Rattle.std.specs.Fmt.{signed_decimal}
use Rattle.pram_trees.specs.Program.{ProgramTree}
use Rattle.program_texts.specs.Shown.{spaced}
use Rattle.help.specs.Locals.{local_name, variable_name}
use Rattle.journal.specs.declared.change.Change.{Change}
use Rattle.journal.specs.declared.local_change.LocalChange.{LocalChange}
use Rattle.step_text.specs.ValueTexts.{value_text}

-- a uniform variable: ` m`
abbrev pub variable_head : ProgramTree → ℕ → List ℕ
variable_head tree number = codes " " ++ variable_name tree number

-- its change: ` m 8 -> 4`
abbrev pub variable_text : ProgramTree → Change → List ℕ
variable_text tree d = variable_head tree d.cell ++ value_text d

abbrev pub variables_text : ProgramTree → List Change → List ℕ
variables_text tree [] = []
variables_text tree (d ∷ ds) = variable_text tree d ++ variables_text tree ds

-- a local's name, where the one told before it is another: ` x`
abbrev pub name_text : ProgramTree → (at : ℕ) → (before : Option ℕ) → (number : ℕ) → List ℕ
name_text tree at None number = codes " " ++ local_name tree at number
name_text tree at (Some m) number = if nat_eq m number then [] else codes " " ++ local_name tree at number

-- a processor: ` 1:`
abbrev pub processor_head : ℤ → List ℕ
processor_head index = codes " " ++ (signed_decimal index ++ codes ":")

-- its local: ` 1: 3 -> 7`
abbrev pub processor_text : LocalChange → List ℕ
processor_text d = processor_head d.processor ++ value_text d.change

abbrev pub local_text : ProgramTree → (at : ℕ) → (before : Option ℕ) → LocalChange → List ℕ
local_text tree at before d = name_text tree at before d.change.cell ++ processor_text d

-- those of one local behind its name: ` x 1: 3 -> 7 2: 0 -> 1`
abbrev pub each_local_text : ProgramTree → (at : ℕ) → (before : Option ℕ) → List LocalChange → List ℕ
each_local_text tree at before [] = []
each_local_text tree at before (d ∷ ds) = local_text tree at before d ++ each_local_text tree at (Some d.change.cell) ds

-- so many are told each by itself
abbrev pub most_locals : ℕ
most_locals = 8

-- how many more there are: ` and 12 more`
abbrev pub more_text : (count : ℕ) → List ℕ
more_text count = if nat_le count most_locals then [] else codes " and " ++ (decimal (count - most_locals) ++ codes " more")

abbrev pub locals_text : ProgramTree → (at : ℕ) → List LocalChange → List ℕ
locals_text tree at ds = each_local_text tree at None (take most_locals ds) ++ more_text (length ds)

-- what was printed: ` prints 36`
abbrev pub printed_text : List ℤ → List ℕ
printed_text [] = []
printed_text (v ∷ vs) = codes " prints" ++ spaced (v ∷ vs)

-- all of that: ` m 8 -> 4 x 1: 3 -> 7 2: 0 -> 1 prints 36`
abbrev pub all_text : ProgramTree → (at : ℕ) → List Change → List LocalChange → List ℤ → List ℕ
all_text tree at variables locals printed = variables_text tree variables ++ (locals_text tree at locals ++ printed_text printed)

-- behind the cells of a statement that stands at that offset, where it is asked for
abbrev pub beside_text : Option (Bor ProgramTree) → (at : ℕ) → List Change → List LocalChange → List ℤ → List ℕ
beside_text None at variables locals printed = []
beside_text (Some tree) at variables locals printed = all_text tree.now at variables locals printed
