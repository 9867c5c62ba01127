-- The locals of the pardo in which a statement stands, and the uniform variables, by their numbers.
use Rattle.std.specs.Prelude.{ℕ, zero, suc, if◌then◌else◌, nat_le, List, [], ◌∷◌, Option, Some, None, slice_get}
use Rattle.pram_tokens.specs.declared.token.Location.{Location}
use Rattle.pram_tokens.specs.declared.token.Name.{Name}
use Rattle.pram_trees.specs.declared.tree.Declaration.{Declaration}
use Rattle.pram_trees.specs.declared.tree.Declaration.TheVariants as declare
use Rattle.pram_trees.specs.declared.tree.Stmt.{Stmt}
use Rattle.pram_trees.specs.declared.tree.Stmt.TheOpen.{Stmt-F}
use Rattle.pram_trees.specs.declared.tree.Stmt.TheFolds.{fold-Stmt}
use Rattle.pram_trees.specs.Program.{ProgramTree}

-- ---- locals

-- these locals, if the pardo begins at or before the place, and else those found so far
abbrev pub pardo_locals : ℕ → Location → (locals found : List Name) → List Name
pardo_locals at begins locals found = if nat_le begins.offset at then locals else found

-- the locals of the last pardo so far that begins at or before the place, by those found before
abbrev pub Finding : Type 0
Finding = List Name → List Name

abbrev pub found_all : List Finding → Finding
found_all [] found = found
found_all (f ∷ fs) found = found_all fs (f found)

abbrev pub found_else : Option (List Finding) → Finding
found_else None found = found
found_else (Some fs) found = found_all fs found

abbrev pub node_locals : ℕ → Stmt-F Finding → Finding
node_locals at (Stmt-F.Assign x v) found = found
node_locals at (Stmt-F.AssignElement x i v) found = found
node_locals at (Stmt-F.Print l v) found = found
node_locals at (Stmt-F.While l e body) found = found_all body found
node_locals at (Stmt-F.If l e body other) found = found_else other (found_all body found)
node_locals at (Stmt-F.For l x low high body) found = found_all body found
node_locals at (Stmt-F.Pardo l low x high locals body) found = found_all body (pardo_locals at l locals found)

unfoldable pub statement_locals : ℕ → Stmt → Finding
statement_locals at = fold-Stmt Finding (node_locals at)

abbrev pub block_locals : ℕ → List Stmt → Finding
block_locals at [] found = found
block_locals at (s ∷ rest) found = block_locals at rest (statement_locals at s found)

abbrev pub else_locals : ℕ → Option (List Stmt) → Finding
else_locals at None found = found
else_locals at (Some body) found = block_locals at body found

-- The locals of the last pardo that begins at or before an offset of a program's text: since no pardo stands in another, those of the pardo
-- in which a statement stands that begins there.
abbrev pub locals_at : ProgramTree → ℕ → List Name
locals_at tree at = block_locals at tree.body []

-- the letters of a name, and none where there is no name
abbrev pub letters_of : Option Name → List ℕ
letters_of None = []
letters_of (Some x) = x.text

-- the name of the local of that number among them, counted from 0
abbrev pub local_name : ProgramTree → (at number : ℕ) → List ℕ
local_name tree at number = letters_of (slice_get (locals_at tree at) number)

-- ---- uniform variables

-- the name of the uniform variable of that number in the order of declarations, counted from 0
abbrev pub variable_of : List Declaration → ℕ → List ℕ
variable_of [] number = []
variable_of (declare.Cell x ∷ ds) number = variable_of ds number
variable_of (declare.Array x low high ∷ ds) number = variable_of ds number
variable_of (declare.Uniform x ∷ ds) zero = x.text
variable_of (declare.Uniform x ∷ ds) (suc number) = variable_of ds number

abbrev pub variable_name : ProgramTree → ℕ → List ℕ
variable_name tree number = variable_of tree.declarations number
