-- The grammar: the tokens of a tree, and which trees stand on which line of the grammar.
use Rattle.std.specs.Prelude.{◌≡◌, ℕ, zero, suc, Bool, true, false, List, [], ◌∷◌, ◌++◌}
use Rattle.pram_tokens.specs.declared.token.Binary.{Binary}
use Rattle.pram_tokens.specs.declared.token.Binary.TheVariants as op
use Rattle.pram_tokens.specs.declared.token.Mark.TheVariants as mark
use Rattle.pram_tokens.specs.declared.token.Name.{Name}
use Rattle.pram_tokens.specs.declared.token.Numeral.{Numeral}
use Rattle.pram_tokens.specs.declared.token.Token.{Token}
use Rattle.pram_tokens.specs.declared.token.Token.TheVariants as token
use Rattle.pram_trees.specs.declared.tree.Prefix.{Prefix}
use Rattle.pram_trees.specs.declared.tree.Prefix.TheVariants as prefix
use Rattle.pram_trees.specs.declared.level.Level.{Level}
use Rattle.pram_trees.specs.declared.level.Level.TheVariants as level
use Rattle.pram_trees.specs.declared.tree.Expr.{Expr}
use Rattle.pram_trees.specs.declared.tree.Expr.TheVariants as e
use Rattle.pram_trees.specs.declared.tree.Expr.TheOpen.{Expr-F}
use Rattle.pram_trees.specs.declared.tree.Expr.TheFolds.{fold-Expr}

-- the token of an operator before its operand
abbrev pub prefix_token : Prefix → Token
prefix_token prefix.Not = token.Not
prefix_token prefix.Negate = token.Binary op.Subtract

-- operators, each with the tokens of the operand after it
abbrev pub joined : List (Binary × List Token) → List Token
joined [] = []
joined (s ∷ rest) = token.Binary s.0 ∷ (s.1 ++ joined rest)

-- one node, with the tokens of each operand in its place
abbrev pub node_tokens : Expr-F (List Token) → List Token
node_tokens (Expr-F.Number n) = token.Number n ∷ []
node_tokens (Expr-F.Name x) = token.Name x ∷ []
node_tokens (Expr-F.Element x inner) = token.Name x ∷ (token.Mark mark.OpenBracket ∷ (inner ++ token.Mark mark.CloseBracket ∷ []))
node_tokens (Expr-F.Paren inner) = token.Mark mark.OpenParen ∷ (inner ++ token.Mark mark.CloseParen ∷ [])
node_tokens (Expr-F.Prefix p operand) = prefix_token p ∷ operand
node_tokens (Expr-F.Chain first rest) = first ++ joined rest

-- the tokens of an expression
unfoldable pub tokens : Expr → List Token
tokens = fold-Expr (List Token) node_tokens

-- the tokens behind the first operand of a chain
abbrev pub step_tokens : List (Binary × Expr) → List Token
step_tokens [] = []
step_tokens (s ∷ rest) = token.Binary s.0 ∷ (tokens s.1 ++ step_tokens rest)

-- the level on which an operator joins operands
abbrev pub joins : Level → Binary → Bool
joins level.Expression op.Or = true
joins level.Conjunction op.And = true
joins level.Comparison op.Equal = true
joins level.Comparison op.Unequal = true
joins level.Comparison op.Less = true
joins level.Comparison op.AtMost = true
joins level.Comparison op.Greater = true
joins level.Comparison op.AtLeast = true
joins level.Sum op.Add = true
joins level.Sum op.Subtract = true
joins level.Term op.Multiply = true
joins level.Term op.Divide = true
joins level.Term op.Remainder = true
joins _ _ = false

-- one operand is itself, and several are a chain
abbrev pub chain : Expr → List (Binary × Expr) → Expr
chain first [] = first
chain first (s ∷ rest) = e.Chain first (s ∷ rest)

-- each operator is one of the level, and each operand is one of the next
abbrev pub AreSteps : Level → (Expr → Type 0) → List (Binary × Expr) → Type 0
AreSteps l Operand [] = Unit {0}
AreSteps l Operand (s ∷ rest) = (joins l s.0 ≡ true) × Operand s.1 × AreSteps l Operand rest

-- at most one
abbrev pub IsShort : List (Binary × Expr) → Type 0
IsShort [] = Unit {0}
IsShort (s ∷ []) = Unit {0}
IsShort (s ∷ r ∷ rest) = ⊥

-- operand { operator operand }
pub data Chained (l : Level) (Operand : Expr → Type 0) : Expr → Type 0 where
  chained : (first : Expr) (rest : List (Binary × Expr)) → Operand first → AreSteps l Operand rest → Chained l Operand (chain first rest)

-- operand [ operator operand ]
pub data Compared (l : Level) (Operand : Expr → Type 0) : Expr → Type 0 where
  compared : (first : Expr) (rest : List (Binary × Expr)) → Operand first → AreSteps l Operand rest → IsShort rest →
      Compared l Operand (chain first rest)

-- The lines of the grammar. Inner is the same one level of nesting further in.

-- atom := NUMBER | NAME | NAME "[" expr "]" | "(" expr ")"
pub data IsAtom (Inner : Level → Expr → Type 0) : Expr → Type 0 where
  number : (n : Numeral) → IsAtom Inner (e.Number n)
  name : (x : Name) → IsAtom Inner (e.Name x)
  element : (x : Name) (i : Expr) → Inner level.Expression i → IsAtom Inner (e.Element x i)
  paren : (i : Expr) → Inner level.Expression i → IsAtom Inner (e.Paren i)

-- unary := "-" unary | atom
pub data IsUnary (Inner : Level → Expr → Type 0) : Expr → Type 0 where
  minus : (i : Expr) → Inner level.Unary i → IsUnary Inner (e.Prefix prefix.Negate i)
  atom : {x : Expr} → IsAtom Inner x → IsUnary Inner x

-- term := unary { ("*" | "div" | "mod") unary }
abbrev pub IsTerm : (Level → Expr → Type 0) → Expr → Type 0
IsTerm Inner = Chained level.Term (IsUnary Inner)

-- sum := term { ("+" | "-") term }
abbrev pub IsSum : (Level → Expr → Type 0) → Expr → Type 0
IsSum Inner = Chained level.Sum (IsTerm Inner)

-- cmp := sum [ ("=" | "<>" | "<" | "<=" | ">" | ">=") sum ]
abbrev pub IsComparison : (Level → Expr → Type 0) → Expr → Type 0
IsComparison Inner = Compared level.Comparison (IsSum Inner)

-- neg := "not" neg | cmp
pub data IsNegation (Inner : Level → Expr → Type 0) : Expr → Type 0 where
  not : (i : Expr) → Inner level.Negation i → IsNegation Inner (e.Prefix prefix.Not i)
  comparison : {x : Expr} → IsComparison Inner x → IsNegation Inner x

-- conj := neg { "and" neg }
abbrev pub IsConjunction : (Level → Expr → Type 0) → Expr → Type 0
IsConjunction Inner = Chained level.Conjunction (IsNegation Inner)

-- expr := conj { "or" conj }
abbrev pub IsExpression : (Level → Expr → Type 0) → Expr → Type 0
IsExpression Inner = Chained level.Expression (IsConjunction Inner)

-- the lines by name
abbrev pub IsAt : (Level → Expr → Type 0) → Level → Expr → Type 0
IsAt Inner level.Expression = IsExpression Inner
IsAt Inner level.Conjunction = IsConjunction Inner
IsAt Inner level.Negation = IsNegation Inner
IsAt Inner level.Comparison = IsComparison Inner
IsAt Inner level.Sum = IsSum Inner
IsAt Inner level.Term = IsTerm Inner
IsAt Inner level.Unary = IsUnary Inner
IsAt Inner level.Atom = IsAtom Inner

-- an expression of that line within d levels of nesting, of which one is opened already
abbrev pub Further : ℕ → Level → Expr → Type 0
Further zero l x = ⊥
Further (suc d) l x = IsAt (Further d) l x

-- an expression of that line, of nesting at most d
abbrev pub Fits : ℕ → Level → Expr → Type 0
Fits d = IsAt (Further d)

-- operands, with operators between them
abbrev pub IsChainLevel : Level → Type 0
IsChainLevel level.Expression = Unit {0}
IsChainLevel level.Conjunction = Unit {0}
IsChainLevel level.Sum = Unit {0}
IsChainLevel level.Term = Unit {0}
IsChainLevel _ = ⊥
