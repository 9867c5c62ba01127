-- What is left of the entries of a run where some of a program is looked at, by its names.
use Rattle.std.specs.Prelude.{ℕ, ◌-◌, nat_lt, Bool, true, false, not, ◌||◌, if◌then◌else◌, List, [], ◌∷◌, map, Option, Some, None}
use Rattle.std.specs.List.{filter, find}
use Rattle.std.specs.Option.{is_some}
use Rattle.pram_model.specs.Layout.{SharedEntry, size}
use Rattle.pram_model.specs.Names.{is_one_of}
use Rattle.pram_trees.specs.Program.{ProgramTree}
use Rattle.memory_texts.specs.Chosen.{is_chosen, parts}
use Rattle.memory_texts.specs.declared.choice.Choice.{Choice}
use Rattle.memory_texts.specs.declared.choice.Choice.TheVariants.{All, Named, Nothing}
use Rattle.help.specs.Bound.{bound_in}
use Rattle.help.specs.InScope.{declared_name}
use Rattle.help.specs.Locals.{local_name, variable_name}
use Rattle.journal.specs.declared.change.Change.{Change}
use Rattle.journal.specs.declared.local_change.LocalChange.{LocalChange}
use Rattle.journal.specs.Entries.{Entry, Faulting, Ran}
use Rattle.step_text.specs.declared.focus.Focus.{Focus}

-- ---- names

-- the name of the declaration that a cell is of, by its number among those of all declarations
abbrev pub cell_name : List SharedEntry → ℕ → List ℕ
cell_name [] k = []
cell_name (e ∷ es) k = if nat_lt k (size e.bounds) then e.name else cell_name es (k - size e.bounds)

-- whether a program has that name: a declaration's, or one that a pardo binds
abbrev pub is_declared : ProgramTree → (name : List ℕ) → Bool
is_declared tree name = is_one_of (map (λ d. (declared_name d).text) tree.declarations) name || is_some (bound_in tree name)

-- the first of some parts that is none
abbrev pub undeclared_part : ProgramTree → List (List ℕ) → Option (List ℕ)
undeclared_part tree = find (λ part. not (is_declared tree part))

abbrev pub undeclared_name : ProgramTree → Choice → Option (List ℕ)
undeclared_name tree All = None
undeclared_name tree Nothing = None
undeclared_name tree (Named word) = undeclared_part tree (parts word.now)

-- ---- entries

-- whether a changed cell, uniform variable or local, of a statement that stands at that offset of the text, bears one of the names
abbrev pub is_cell : Focus → Change → Bool
is_cell f d = is_chosen f.names (cell_name f.layout.now d.cell)

abbrev pub is_variable : Focus → Change → Bool
is_variable f d = is_chosen f.names (variable_name f.tree.now d.cell)

abbrev pub is_local : Focus → (at : ℕ) → LocalChange → Bool
is_local f at d = is_chosen f.names (local_name f.tree.now at d.change.cell)

-- what is left of an entry: the changes of just what bears one of the names
abbrev pub narrowed : Focus → Entry → Entry
narrowed f (Ran here acts cells variables locals printed) =
    Ran here acts (filter (is_cell f) cells) (filter (is_variable f) variables) (filter (is_local f here.offset) locals) []
narrowed f (Faulting here fault cause acts met locals) = Faulting here fault cause acts met (if f.at_faults then locals else [])

abbrev pub are_some : {A : Type 0} → List A → Bool
are_some [] = false
are_some (x ∷ xs) = true

-- whether something changed, or it is a fault
abbrev pub tells : Entry → Bool
tells (Ran here acts cells variables locals printed) = (are_some cells || are_some variables) || are_some locals
tells (Faulting here fault cause acts met locals) = true

abbrev pub left_of : Entry → Option Entry
left_of e = if tells e then Some e else None

-- that, where it tells something; and where no names are given, the entry itself
abbrev pub focused_by : Choice → Focus → Entry → Option Entry
focused_by All f e = Some e
focused_by Nothing f e = left_of (narrowed f e)
focused_by (Named word) f e = left_of (narrowed f e)

abbrev pub focused : Focus → Entry → Option Entry
focused f e = focused_by f.names f e
