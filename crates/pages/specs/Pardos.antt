-- The pardos of a program, as facts: where each begins, its index, and the names of its locals.
use Rattle.std.specs.Prelude.{List, [], ◌∷◌, ◌++◌, Option, Some, None, codes, map}
use Rattle.serde_json.specs.Data.{Data}
use Rattle.json_texts.specs.Facts.{count, letters, list, object_of}
use Rattle.pram_tokens.specs.declared.token.Location.{Location}
use Rattle.pram_tokens.specs.declared.token.Name.{Name}
use Rattle.pram_trees.specs.declared.tree.Stmt.{Stmt}
use Rattle.pram_trees.specs.declared.tree.Stmt.TheOpen.{Stmt-F}
use Rattle.pram_trees.specs.declared.tree.Stmt.TheFolds.{fold-Stmt}
use Rattle.pages.specs.declared.pardos as rust

abbrev pub name_fact : Name → Data
name_fact x = letters x.text

-- where a pardo begins, its index and its locals
pub record Pardo : Type 0 where
  pub begins : Location
  pub index : Name
  pub locals : List Name

abbrev pub pardo_is : rust.Pardo.Pardo → Pardo
pardo_is p = record { begins = p.begins; index = p.index.now; locals = p.locals.now }

abbrev pub pardo_facts : Pardo → Data
pardo_facts p = object_of
    ((codes "line", count p.begins.line) ∷ (codes "offset", count p.begins.offset) ∷ (codes "index", letters p.index.text)
    ∷ (codes "locals", list (map name_fact p.locals)) ∷ [])

abbrev pub with_pardo : Location → (index : Name) → (locals : List Name) → List Pardo → List Pardo
with_pardo begins index locals found = found ++ record { begins = begins; index = index; locals = locals } ∷ []

-- the pardos up to the end of a statement, by those found before it
abbrev pub Gathering : Type 0
Gathering = List Pardo → List Pardo

abbrev pub gathered_all : List Gathering → Gathering
gathered_all [] found = found
gathered_all (f ∷ fs) found = gathered_all fs (f found)

abbrev pub gathered_else : Option (List Gathering) → Gathering
gathered_else None found = found
gathered_else (Some fs) found = gathered_all fs found

abbrev pub node_pardos : Stmt-F Gathering → Gathering
node_pardos (Stmt-F.Assign x v) found = found
node_pardos (Stmt-F.AssignElement x i v) found = found
node_pardos (Stmt-F.Print l v) found = found
node_pardos (Stmt-F.While l e body) found = gathered_all body found
node_pardos (Stmt-F.If l e body other) found = gathered_else other (gathered_all body found)
node_pardos (Stmt-F.For l x low high body) found = gathered_all body found
node_pardos (Stmt-F.Pardo l low x high locals body) found = gathered_all body (with_pardo l x locals found)

unfoldable pub statement_pardos : Stmt → Gathering
statement_pardos = fold-Stmt Gathering node_pardos

abbrev pub block_pardos : List Stmt → Gathering
block_pardos [] found = found
block_pardos (s ∷ rest) found = block_pardos rest (statement_pardos s found)

abbrev pub else_pardos : Option (List Stmt) → Gathering
else_pardos None found = found
else_pardos (Some body) found = block_pardos body found

-- all of some statements, in the order of the text
abbrev pub pardos_of : List Stmt → List Pardo
pardos_of body = block_pardos body []
