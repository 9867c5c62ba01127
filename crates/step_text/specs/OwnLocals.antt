-- The locals at a fault: what those of each processor held that the fault is of.
use Rattle.std.specs.Prelude.{ℕ, ◌+◌, Bool, true, false, List, [], ◌∷◌, ◌++◌, ℤ, Option, Some, None, codes, length, take}
use Rattle.std.specs.Borrow.{Bor}
use Rattle.std.specs.Fmt.{signed_decimal}
use Rattle.std.specs.List.{filter}
use Rattle.pram_trees.specs.Program.{ProgramTree}
use Rattle.help.specs.Locals.{local_name}
use Rattle.journal.specs.Entries.{OwnLocals}
use Rattle.step_text.specs.BesideCells.{more_text, most_locals, processor_head}

-- a local and its value: ` x 3`
abbrev pub local_text : ProgramTree → (at number : ℕ) → ℤ → List ℕ
local_text tree at number v = codes " " ++ (local_name tree at number ++ (codes " " ++ signed_decimal v))

-- the locals from that number on: ` x 3 y 7`
abbrev pub values_text : ProgramTree → (at number : ℕ) → List ℤ → List ℕ
values_text tree at number [] = []
values_text tree at number (v ∷ vs) = local_text tree at number v ++ values_text tree at (number + 1) vs

-- those of a processor: ` 1: x 3 y 7`
abbrev pub owner_text : ProgramTree → (at : ℕ) → OwnLocals → List ℕ
owner_text tree at l = processor_head l.processor ++ values_text tree at 0 l.values

abbrev pub owners_text : ProgramTree → (at : ℕ) → List OwnLocals → List ℕ
owners_text tree at [] = []
owners_text tree at (l ∷ ls) = owner_text tree at l ++ owners_text tree at ls

-- whether there are any
abbrev pub are_some : List ℤ → Bool
are_some [] = false
are_some (v ∷ vs) = true

-- a processor that has locals
abbrev pub is_owner : OwnLocals → Bool
is_owner l = are_some l.values

-- those of the first of some processors, and how many more there are: ` 1: x 3 y 7 3: x 0 y 2 and 12 more`
abbrev pub first_text : ProgramTree → (at : ℕ) → List OwnLocals → List ℕ
first_text tree at ls = owners_text tree at (take most_locals ls) ++ more_text (length ls)

-- those of the processors that have any, at a fault of the statement that stands at that offset, where they are asked for
abbrev pub own_text : Option (Bor ProgramTree) → (at : ℕ) → List OwnLocals → List ℕ
own_text None at ls = []
own_text (Some tree) at ls = first_text tree.now at (filter is_owner ls)
