-- Where a statement names the elements of an array, in the order in which it comes to them: a subscript before its element, operands from
-- left to right, and the element that is assigned last.
use Rattle.std.specs.Prelude.{ℕ, nat_eq, if◌then◌else◌, List, [], ◌∷◌, ◌++◌, Option, Some, None}
use Rattle.pram_model.specs.Names.{same_text}
use Rattle.pram_tokens.specs.declared.token.Binary.{Binary}
use Rattle.pram_tokens.specs.declared.token.Location.{Location}
use Rattle.pram_tokens.specs.declared.token.Name.{Name}
use Rattle.pram_trees.specs.declared.tree.Expr.{Expr}
use Rattle.pram_trees.specs.declared.tree.Expr.TheOpen.{Expr-F}
use Rattle.pram_trees.specs.declared.tree.Expr.TheFolds.{fold-Expr}
use Rattle.pram_trees.specs.declared.tree.Stmt.{Stmt}
use Rattle.pram_trees.specs.declared.tree.Stmt.TheOpen.{Stmt-F}
use Rattle.pram_trees.specs.declared.tree.Stmt.TheFolds.{fold-Stmt}
use Rattle.pram_trees.specs.Program.{ProgramTree}

-- ---- expressions

-- the place of an array's name, if it is spelled so
abbrev pub named : (word : List ℕ) → Name → List ℕ
named word x = if same_text x.text word then x.location.offset ∷ [] else []

abbrev pub joined_links : List (Binary × List ℕ) → List ℕ
joined_links [] = []
joined_links (s ∷ rest) = s.1 ++ joined_links rest

abbrev pub node_elements : (word : List ℕ) → Expr-F (List ℕ) → List ℕ
node_elements word (Expr-F.Number n) = []
node_elements word (Expr-F.Name x) = []
node_elements word (Expr-F.Element x inner) = inner ++ named word x
node_elements word (Expr-F.Paren inner) = inner
node_elements word (Expr-F.Prefix p operand) = operand
node_elements word (Expr-F.Chain first rest) = first ++ joined_links rest

-- the elements of an array of that name in an expression
unfoldable pub elements : (word : List ℕ) → Expr → List ℕ
elements word = fold-Expr (List ℕ) (node_elements word)

abbrev pub link_elements : (word : List ℕ) → List (Binary × Expr) → List ℕ
link_elements word [] = []
link_elements word (s ∷ rest) = elements word s.1 ++ link_elements word rest

-- those of an assignment to an element
abbrev pub assigned : (word : List ℕ) → (target : Name) → (subscript value : Expr) → List ℕ
assigned word x i v = (elements word i ++ elements word v) ++ named word x

-- ---- the statement that begins at an offset of the text: no two do

-- those of one that begins here, if it is that
abbrev pub here : Location → (at : ℕ) → List ℕ → List ℕ
here begins at own = if nat_eq begins.offset at then own else []

abbrev pub joined : List (List ℕ) → List ℕ
joined [] = []
joined (own ∷ rest) = own ++ joined rest

abbrev pub joined_else : Option (List (List ℕ)) → List ℕ
joined_else None = []
joined_else (Some other) = joined other

abbrev pub node_at : (word : List ℕ) → (at : ℕ) → Stmt-F (List ℕ) → List ℕ
node_at word at (Stmt-F.Assign x v) = here x.location at (elements word v)
node_at word at (Stmt-F.AssignElement x i v) = here x.location at (assigned word x i v)
node_at word at (Stmt-F.Print l v) = here l at (elements word v)
node_at word at (Stmt-F.While l e body) = here l at (elements word e) ++ joined body
node_at word at (Stmt-F.If l e body other) = here l at (elements word e) ++ (joined body ++ joined_else other)
node_at word at (Stmt-F.For l x low high body) = here l at (elements word low ++ elements word high) ++ joined body
node_at word at (Stmt-F.Pardo l low x high locals body) = here l at (elements word low ++ elements word high) ++ joined body

unfoldable pub statement_elements : (word : List ℕ) → (at : ℕ) → Stmt → List ℕ
statement_elements word at = fold-Stmt (List ℕ) (node_at word at)

abbrev pub block_elements : (word : List ℕ) → (at : ℕ) → List Stmt → List ℕ
block_elements word at [] = []
block_elements word at (s ∷ rest) = statement_elements word at s ++ block_elements word at rest

abbrev pub else_elements : (word : List ℕ) → (at : ℕ) → Option (List Stmt) → List ℕ
else_elements word at None = []
else_elements word at (Some body) = block_elements word at body

-- those of the statement of a program
abbrev pub elements_at : ProgramTree → (at : ℕ) → (word : List ℕ) → List ℕ
elements_at tree at word = block_elements word at tree.body
