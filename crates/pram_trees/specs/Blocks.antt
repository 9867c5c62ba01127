-- The grammar of statements: the tokens of a statement, and which statements stand in the grammar.
use Rattle.std.specs.Prelude.{ℕ, zero, suc, List, [], ◌∷◌, ◌++◌, Option, Some, None}
use Rattle.pram_trees.specs.declared.level.Level.TheVariants as level
use Rattle.pram_tokens.specs.declared.token.Binary.TheVariants as op
use Rattle.pram_tokens.specs.declared.token.Location.{Location}
use Rattle.pram_tokens.specs.declared.token.Mark.TheVariants as mark
use Rattle.pram_tokens.specs.declared.token.Name.{Name}
use Rattle.pram_tokens.specs.declared.token.Opening.TheVariants as opening
use Rattle.pram_tokens.specs.declared.token.Token.{Token}
use Rattle.pram_tokens.specs.declared.token.Token.TheVariants as token
use Rattle.pram_trees.specs.declared.tree.Expr.{Expr}
use Rattle.pram_trees.specs.declared.tree.Stmt.{Stmt}
use Rattle.pram_trees.specs.declared.tree.Stmt.TheVariants as s
use Rattle.pram_trees.specs.declared.tree.Stmt.TheOpen.{Stmt-F}
use Rattle.pram_trees.specs.declared.tree.Stmt.TheFolds.{fold-Stmt}
use Rattle.pram_trees.specs.Grammar.{tokens, Fits, Further}

-- the tokens of statements, one after the other
abbrev pub joined_all : List (List Token) → List Token
joined_all [] = []
joined_all (ts ∷ rest) = ts ++ joined_all rest

-- `else` and the tokens of its statements, or nothing: an empty `else` has a token
abbrev pub joined_else : Option (List (List Token)) → List Token
joined_else None = []
joined_else (Some body) = token.Mark mark.Else ∷ joined_all body

-- ("local" NAME ";")*
abbrev pub local_tokens : List Name → List Token
local_tokens [] = []
local_tokens (x ∷ rest) = token.Mark mark.Local ∷ (token.Name x ∷ (token.Mark mark.Semicolon ∷ local_tokens rest))

-- one statement, with the tokens of each statement in it in its place
abbrev pub statement_step : Stmt-F (List Token) → List Token
-- NAME ":=" expr ";"
statement_step (Stmt-F.Assign x v) = token.Name x ∷ (token.Mark mark.Becomes ∷ (tokens v ++ token.Mark mark.Semicolon ∷ []))
-- NAME "[" expr "]" ":=" expr ";"
statement_step (Stmt-F.AssignElement x i v) =
    token.Name x ∷ (token.Mark mark.OpenBracket ∷ (tokens i ++ (token.Mark mark.CloseBracket ∷ (token.Mark mark.Becomes
    ∷ (tokens v ++ token.Mark mark.Semicolon ∷ [])))))
-- "print" expr ";"
statement_step (Stmt-F.Print at v) = token.Opening opening.Print at ∷ (tokens v ++ token.Mark mark.Semicolon ∷ [])
-- "while" expr "do" stmt* "end"
statement_step (Stmt-F.While at c body) =
    token.Opening opening.While at ∷ (tokens c ++ (token.Mark mark.Do ∷ (joined_all body ++ token.Mark mark.End ∷ [])))
-- "if" expr "then" stmt* [ "else" stmt* ] "end"
statement_step (Stmt-F.If at c body other) =
    token.Opening opening.If at ∷ (tokens c
    ++ (token.Mark mark.Then ∷ (joined_all body ++ (joined_else other ++ token.Mark mark.End ∷ []))))
-- "for" NAME ":=" expr "to" expr "do" stmt* "end"
statement_step (Stmt-F.For at x low high body) =
    token.Opening opening.For at ∷ (token.Name x ∷ (token.Mark mark.Becomes ∷ (tokens low ++ (token.Mark mark.To ∷ (tokens high
    ++ (token.Mark mark.Do ∷ (joined_all body ++ token.Mark mark.End ∷ [])))))))
-- "for" sum "<=" NAME "<=" sum "pardo" ("local" NAME ";")* stmt* "end"
statement_step (Stmt-F.Pardo at low x high locals body) =
    token.Opening opening.For at ∷ (tokens low ++ (token.Binary op.AtMost ∷ (token.Name x ∷ (token.Binary op.AtMost ∷ (tokens high
    ++ (token.Mark mark.Pardo ∷ (local_tokens locals ++ (joined_all body ++ token.Mark mark.End ∷ []))))))))

-- the tokens of a statement
unfoldable pub statement_tokens : Stmt → List Token
statement_tokens = fold-Stmt (List Token) statement_step

-- stmt*
abbrev pub block_tokens : List Stmt → List Token
block_tokens [] = []
block_tokens (x ∷ rest) = statement_tokens x ++ block_tokens rest

-- [ "else" stmt* ]
abbrev pub else_tokens : Option (List Stmt) → List Token
else_tokens None = []
else_tokens (Some body) = token.Mark mark.Else ∷ block_tokens body

-- A statement of the grammar. Inner are the statements one block further in, and d the levels of nesting of an expression.
pub data IsStatement (d : ℕ) (Inner : List Stmt → Type 0) : Stmt → Type 0 where
  assign : (x : Name) (v : Expr) → Fits d level.Expression v → IsStatement d Inner (s.Assign x v)
  assign_element : (x : Name) (i v : Expr) → Further d level.Expression i → Fits d level.Expression v →
      IsStatement d Inner (s.AssignElement x i v)
  print : (at : Location) (v : Expr) → Fits d level.Expression v → IsStatement d Inner (s.Print at v)
  while : (at : Location) (c : Expr) (body : List Stmt) → Fits d level.Expression c → Inner body → IsStatement d Inner (s.While at c body)
  if_then : (at : Location) (c : Expr) (body : List Stmt) → Fits d level.Expression c → Inner body →
      IsStatement d Inner (s.If at c body None)
  if_else : (at : Location) (c : Expr) (body other : List Stmt) → Fits d level.Expression c → Inner body → Inner other →
      IsStatement d Inner (s.If at c body (Some other))
  for_to : (at : Location) (x : Name) (low high : Expr) (body : List Stmt) → Fits d level.Expression low → Fits d level.Expression high →
      Inner body →
      IsStatement d Inner (s.For at x low high body)
  pardo : (at : Location) (low : Expr) (x : Name) (high : Expr) (locals : List Name) (body : List Stmt) → Fits d level.Sum low →
      Fits d level.Sum high →
      Inner body → IsStatement d Inner (s.Pardo at low x high locals body)

-- statements of the grammar, one after the other
abbrev pub AreStatements : ℕ → (List Stmt → Type 0) → List Stmt → Type 0
AreStatements d Inner [] = Unit {0}
AreStatements d Inner (x ∷ rest) = IsStatement d Inner x × AreStatements d Inner rest

-- statements within b blocks, of which one is opened already
abbrev pub IsFurtherBlock : (b d : ℕ) → List Stmt → Type 0
IsFurtherBlock zero d body = ⊥
IsFurtherBlock (suc b) d body = AreStatements d (IsFurtherBlock b d) body

-- statements of block nesting at most b and expression nesting at most d
abbrev pub IsBlock : (b d : ℕ) → List Stmt → Type 0
IsBlock b d = AreStatements d (IsFurtherBlock b d)
