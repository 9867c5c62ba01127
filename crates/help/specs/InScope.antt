-- Which names are in scope at a place of a program, and as what they are declared.
use Rattle.std.specs.Prelude.{ℕ, if◌then◌else◌, nat_le, nat_lt, List, [], ◌∷◌, ◌++◌, Option, Some, None}
use Rattle.std.specs.List.{flat_map}
use Rattle.pram_tokens.specs.declared.token.Location.{Location}
use Rattle.pram_tokens.specs.declared.token.Name.{Name}
use Rattle.pram_trees.specs.declared.tree.Declaration.{Declaration}
use Rattle.pram_trees.specs.declared.tree.Declaration.TheVariants as declare
use Rattle.pram_trees.specs.declared.tree.Stmt.{Stmt}
use Rattle.pram_trees.specs.declared.tree.Stmt.TheOpen.{Stmt-F}
use Rattle.pram_trees.specs.declared.tree.Stmt.TheFolds.{fold-Stmt}
use Rattle.pram_trees.specs.Program.{ProgramTree}
use Rattle.help.specs.declared.known as rust
use Rattle.help.specs.declared.known.Sort.{Sort}
use Rattle.help.specs.declared.known.Sort.TheVariants as sort

-- a name, the line of its declaration, and as what it is declared there
pub record Known : Type 0 where
  pub name : List ℕ
  pub line : ℕ
  pub sort : Sort

abbrev pub known_is : rust.Known.Known → Known
known_is k = record { name = k.name.now; line = k.line; sort = k.sort }

-- a name that is declared where it stands
abbrev pub as_declared : Name → Sort → Known
as_declared x s = record { name = x.text; line = x.location.line; sort = s }

-- ---- before the body

abbrev pub declared_name : Declaration → Name
declared_name (declare.Cell x) = x
declared_name (declare.Array x low high) = x
declared_name (declare.Uniform x) = x

abbrev pub declared_sort : Declaration → Sort
declared_sort (declare.Cell x) = sort.Cell
declared_sort (declare.Array x low high) = sort.Array
declared_sort (declare.Uniform x) = sort.Variable

-- a name, if it stands before the place
abbrev pub if_before : ℕ → Name → Sort → List Known
if_before at x s = if nat_lt x.location.offset at then as_declared x s ∷ [] else []

abbrev pub declared_before : ℕ → Declaration → List Known
declared_before at d = if_before at (declared_name d) (declared_sort d)

abbrev pub local_before : ℕ → Name → List Known
local_before at x = if_before at x sort.Local

-- ---- in the body

-- the names that hold in the locals and in the body of a pardo: the names around it, its index, and those of its locals that stand before
-- the place
abbrev pub pardo_names : ℕ → List Known → Name → List Name → List Known
pardo_names at around index locals = around ++ as_declared index sort.Index ∷ [] ++ flat_map (local_before at) locals

-- these names, if what stands there begins at or before the place, and else those found so far
abbrev pub reached : ℕ → Location → (here found : List Known) → List Known
reached at begins here found = if nat_le begins.offset at then here else found

abbrev pub reached_locals : ℕ → List Name → (here found : List Known) → List Known
reached_locals at [] here found = found
reached_locals at (x ∷ xs) here found = reached at x.location here found

-- The names in scope at a place, by the names that hold around a statement and by those found before it: what begins last of all that
-- begins at or before the place says them.
abbrev pub Reaching : Type 0
Reaching = (here found : List Known) → List Known

abbrev pub reached_all : List Reaching → Reaching
reached_all [] here found = found
reached_all (f ∷ fs) here found = reached_all fs here (f here found)

abbrev pub reached_else : Option (List Reaching) → Reaching
reached_else None here found = found
reached_else (Some fs) here found = reached_all fs here found

abbrev pub node_names : ℕ → Stmt-F Reaching → Reaching
node_names at (Stmt-F.Assign x v) here found = reached at x.location here found
node_names at (Stmt-F.AssignElement x i v) here found = reached at x.location here found
node_names at (Stmt-F.Print l v) here found = reached at l here found
node_names at (Stmt-F.While l e body) here found = reached_all body here (reached at l here found)
node_names at (Stmt-F.If l e body other) here found = reached_else other here (reached_all body here (reached at l here found))
node_names at (Stmt-F.For l x low high body) here found = reached_all body here (reached at l here found)
node_names at (Stmt-F.Pardo l low x high locals body) here found =
    let inner = pardo_names at here x locals in
    reached_all body inner (reached_locals at locals inner (reached at l here found))

unfoldable pub statement_names : ℕ → Stmt → Reaching
statement_names at = fold-Stmt Reaching (node_names at)

abbrev pub block_names : ℕ → List Stmt → Reaching
block_names at [] here found = found
block_names at (s ∷ rest) here found = block_names at rest here (statement_names at s here found)

abbrev pub else_names : ℕ → Option (List Stmt) → Reaching
else_names at None here found = found
else_names at (Some body) here found = block_names at body here found

-- The names in scope at an offset of a program's text, in the order of their declaration.
abbrev pub names_at : ProgramTree → ℕ → List Known
names_at tree at =
    let declared = flat_map (declared_before at) tree.declarations in
    block_names at tree.body declared declared
