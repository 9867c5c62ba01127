-- What a function of the parser promises.
use Rattle.std.specs.Prelude.{◌≡◌, ℕ, true, List, [], ◌∷◌, ◌++◌, Result, Ok, Err}
use Rattle.pram_trees.specs.declared.parse_error.ParseError.{ParseError}
use Rattle.pram_trees.specs.declared.parse_error.ParseError.TheVariants.{OutOfMemory, Syntax, TooDeep}
use Rattle.pram_tokens.specs.declared.token.Binary.{Binary}
use Rattle.pram_tokens.specs.declared.token.Binary.TheVariants as op
use Rattle.pram_tokens.specs.declared.token.Mark.{Mark}
use Rattle.pram_tokens.specs.declared.token.Name.{Name}
use Rattle.pram_tokens.specs.declared.token.Token.{Token}
use Rattle.pram_tokens.specs.declared.token.Token.TheVariants as token
use Rattle.pram_trees.specs.declared.level.Level.{Level}
use Rattle.pram_trees.specs.declared.level.Level.TheVariants as level
use Rattle.pram_trees.specs.declared.tree.Expr.{Expr}
use Rattle.pram_tokens.specs.declared.token.Mark.TheVariants as mark
use Rattle.pram_trees.specs.declared.tree.Stmt.{Stmt}
use Rattle.pram_trees.specs.Blocks.{statement_tokens, block_tokens, local_tokens, IsStatement, IsFurtherBlock, IsBlock}
use Rattle.pram_trees.specs.Grammar.{tokens, joins, Fits, Further}
use Rattle.pram_trees.specs.Machine.{Verdict, SyntaxAt, TooDeepAt, verdict, on_move}
use Rattle.pram_trees.specs.Symbols.{Stack, Operand, Rest, Want, WantAtMost, ForHead, range, deeper}

-- The function does what the machine does, whatever is expected afterwards.
abbrev pub Follows : {X : Type 0} → (Stack → Verdict) → (X → List Token) → Result X ParseError → Type 0
Follows before rest (Ok x) = (k : Stack) → before k ≡ verdict (rest x) k
Follows before rest (Err OutOfMemory) = Unit {0}
Follows before rest (Err (Syntax n)) = (k : Stack) → before k ≡ SyntaxAt n
Follows before rest (Err (TooDeep n)) = (k : Stack) → before k ≡ TooDeepAt n

-- an expression at the front, and what is behind it
abbrev pub Found : Level → ℕ → List Token → Expr → List Token → Type 0
Found l d ts x rest = Fits d l x × (ts ≡ tokens x ++ rest)

-- an expression and a mark at the front
abbrev pub FoundInside : Mark → ℕ → List Token → Expr → List Token → Type 0
FoundInside m d ts x rest = Further d level.Expression x × (ts ≡ (tokens x ++ token.Mark m ∷ []) ++ rest)

-- a name and perhaps a subscript
abbrev pub FoundNamed : Name → ℕ → List Token → Expr → List Token → Type 0
FoundNamed name d ts x rest = Fits d level.Atom x × (token.Name name ∷ ts ≡ tokens x ++ rest)

-- what becomes of tokens behind an opening mark, which was the first of `left`
abbrev pub inside : Mark → ℕ → ℕ → List Token → Stack → Verdict
inside m d left ts k = on_move (deeper d (λ i. Operand level.Expression i ∷ (Want m ∷ k))) (verdict ts) left

-- no operator of that line at the front
abbrev pub NoOperatorAt : Level → List Token → Type 0
NoOperatorAt l ts = (d : ℕ) (k : Stack) → verdict ts (Rest l d ∷ k) ≡ verdict ts k

-- an operator of that line at the front
abbrev pub IsOperatorAt : Level → List Token → Binary → List Token → Type 0
IsOperatorAt l ts o rest = (ts ≡ token.Binary o ∷ rest) × (joins l o ≡ true)

-- the same without a mark
abbrev pub FoundFurther : Level → ℕ → List Token → Expr → List Token → Type 0
FoundFurther l d ts x rest = Further d l x × (ts ≡ tokens x ++ rest)

-- what becomes of tokens behind a prefix, which was the first of `left`
abbrev pub further : Level → ℕ → ℕ → List Token → Stack → Verdict
further l d left ts k = on_move (deeper d (λ i. Operand l i ∷ k)) (verdict ts) left

-- nothing at the front is of the first line without being of the second
abbrev pub Skips : Level → Level → List Token → Type 0
Skips l m ts = (d : ℕ) (k : Stack) → verdict ts (Operand l d ∷ k) ≡ verdict ts (Operand m d ∷ k)

-- an expression and then that mark
abbrev pub FoundThen : Level → Mark → ℕ → List Token → Expr → List Token → Type 0
FoundThen l m d ts x rest = Fits d l x × (ts ≡ tokens x ++ (token.Mark m ∷ rest))

-- statements
abbrev pub FoundBlock : ℕ → ℕ → List Token → List Stmt → List Token → Type 0
FoundBlock b d ts body rest = IsBlock b d body × (ts ≡ block_tokens body ++ rest)

-- statements and then `end`
abbrev pub FoundBody : ℕ → ℕ → List Token → List Stmt → List Token → Type 0
FoundBody b d ts body rest = IsBlock b d body × (ts ≡ block_tokens body ++ (token.Mark mark.End ∷ rest))

-- a statement, whose first tokens stand before the others
abbrev pub FoundStatement : ℕ → ℕ → List Token → List Token → Stmt → List Token → Type 0
FoundStatement b d front ts x rest = IsStatement d (IsFurtherBlock b d) x × (front ++ ts ≡ statement_tokens x ++ rest)

-- what follows `for` is read as a range
abbrev pub IsRange : List Token → Type 0
IsRange ts = (b d : ℕ) (k : Stack) → verdict ts (ForHead b d ∷ k) ≡ verdict ts (Operand level.Sum d ∷ (WantAtMost ∷ range b d k))

-- the bounds of a loop
abbrev pub FoundTurns : ℕ → List Token → Expr → Expr → List Token → Type 0
FoundTurns d ts low high rest =
    Fits d level.Expression low × Fits d level.Expression high
    × (ts ≡ tokens low ++ (token.Mark mark.To ∷ (tokens high ++ (token.Mark mark.Do ∷ rest))))

-- the low bound and the index of a pardo
abbrev pub FoundLow : ℕ → List Token → Expr → Name → List Token → Type 0
FoundLow d ts low x rest =
    Fits d level.Sum low
    × (ts ≡ tokens low ++ (token.Binary op.AtMost ∷ (token.Name x ∷ (token.Binary op.AtMost ∷ rest))))

-- the high bound of a pardo, and its locals
abbrev pub FoundHigh : ℕ → List Token → Expr → List Name → List Token → Type 0
FoundHigh d ts high locals rest =
    Fits d level.Sum high × (ts ≡ tokens high ++ (token.Mark mark.Pardo ∷ (local_tokens locals ++ rest)))

-- the bounds, the index and the locals of a pardo
abbrev pub FoundBounds : ℕ → List Token → Expr → Name → Expr → List Name → List Token → Type 0
FoundBounds d ts low x high locals rest =
    Fits d level.Sum low × Fits d level.Sum high × (ts ≡ tokens low ++ (token.Binary op.AtMost ∷ (token.Name x ∷ (token.Binary op.AtMost
    ∷ (tokens high ++ (token.Mark mark.Pardo ∷ (local_tokens locals ++ rest)))))))
