-- What may come next, as a list of things that are expected, and what the first token does to the first of them.
use Rattle.std.specs.Prelude.{ℕ, zero, suc, Bool, true, false, List, [], ◌∷◌, if◌then◌else◌, nat_eq}
use Rattle.pram_trees.specs.declared.level.Level.{Level}
use Rattle.pram_trees.specs.declared.level.Level.TheVariants as level
use Rattle.pram_tokens.specs.declared.token.Binary.TheVariants as op
use Rattle.pram_tokens.specs.declared.token.Mark.{Mark}
use Rattle.pram_tokens.specs.declared.token.Mark.TheVariants as mark
use Rattle.pram_tokens.specs.declared.token.Opening.{Opening}
use Rattle.pram_tokens.specs.declared.token.Opening.TheVariants as opening
use Rattle.pram_tokens.specs.declared.token.Token.{Token}
use Rattle.pram_tokens.specs.declared.token.Token.TheVariants as token
use Rattle.pram_trees.specs.Grammar.{joins}
use Rattle.pram_model.specs.Rules.{rule_words}
use Rattle.pram_model.specs.Names.{is_one_of}

-- With the number of levels of nesting that may still be opened.
pub data Symbol : Type 0 where
  -- an operand of this line of the grammar
  Operand : Level → ℕ → Symbol
  -- operators of this line with their operands, or nothing
  Rest : Level → ℕ → Symbol
  -- a subscript, or nothing
  Subscript : ℕ → Symbol
  Want : Mark → Symbol
  -- a rule's word, a name, a number, or the symbol <=
  WantRule : Symbol
  WantName : Symbol
  WantNumber : Symbol
  WantAtMost : Symbol
  -- declarations, and what follows `shared` and a name
  Declarations : Symbol
  AfterShared : Symbol
  -- statements, with the blocks and then the levels of expressions that may still be opened
  Statements : ℕ → ℕ → Symbol
  -- what follows a name at the head of a statement
  AfterName : ℕ → ℕ → Symbol
  -- what follows `for`, and what follows a name behind it
  ForHead : ℕ → ℕ → Symbol
  ForName : ℕ → ℕ → Symbol
  -- an `else` with its statements, or nothing
  Else : ℕ → ℕ → Symbol
  -- locals
  Locals : Symbol

-- what is expected, the next thing first
abbrev pub Stack : Type 0
Stack = List Symbol

-- what a token does: the rest that is expected then, or why there is none
pub data Move : Type 0 where
  Next : Stack → Move
  Refused : Move
  TooDeep : Move

-- by numbers, as two marks have one number only if they are one
abbrev pub code : Mark → ℕ
code mark.OpenParen = 0
code mark.CloseParen = 1
code mark.OpenBracket = 2
code mark.CloseBracket = 3
code mark.Becomes = 4
code mark.Semicolon = 5
code mark.Range = 6
code mark.Rule = 7
code mark.Procs = 8
code mark.Shared = 9
code mark.Var = 10
code mark.Begin = 11
code mark.Do = 12
code mark.End = 13
code mark.Then = 14
code mark.Else = 15
code mark.To = 16
code mark.Pardo = 17
code mark.Local = 18

-- whether two marks are one
abbrev pub same_mark : Mark → Mark → Bool
same_mark a b = nat_eq (code a) (code b)

-- one level further in
abbrev pub deeper : ℕ → (ℕ → Stack) → Move
deeper zero next = TooDeep
deeper (suc d) next = Next (next d)

-- The first token of an operand of each line.

-- atom
abbrev pub enter_atom : ℕ → Token → Stack → Move
enter_atom d (token.Number n) k = Next k
enter_atom d (token.Name x) k = Next (Subscript d ∷ k)
enter_atom d (token.Mark m) k = if same_mark mark.OpenParen m then deeper d (λ i. Operand level.Expression i
    ∷ (Want mark.CloseParen ∷ k)) else Refused
enter_atom d _ k = Refused

-- unary
abbrev pub enter_unary : ℕ → Token → Stack → Move
enter_unary d (token.Binary op.Subtract) k = deeper d (λ i. Operand level.Unary i ∷ k)
enter_unary d t k = enter_atom d t k

-- term
abbrev pub enter_term : ℕ → Token → Stack → Move
enter_term d t k = enter_unary d t (Rest level.Term d ∷ k)

-- sum
abbrev pub enter_sum : ℕ → Token → Stack → Move
enter_sum d t k = enter_term d t (Rest level.Sum d ∷ k)

-- cmp
abbrev pub enter_comparison : ℕ → Token → Stack → Move
enter_comparison d t k = enter_sum d t (Rest level.Comparison d ∷ k)

-- neg
abbrev pub enter_negation : ℕ → Token → Stack → Move
enter_negation d token.Not k = deeper d (λ i. Operand level.Negation i ∷ k)
enter_negation d t k = enter_comparison d t k

-- conj
abbrev pub enter_conjunction : ℕ → Token → Stack → Move
enter_conjunction d t k = enter_negation d t (Rest level.Conjunction d ∷ k)

-- expr
abbrev pub enter_expression : ℕ → Token → Stack → Move
enter_expression d t k = enter_conjunction d t (Rest level.Expression d ∷ k)

-- the lines by name
unfoldable pub enter : Level → ℕ → Token → Stack → Move
enter level.Expression = enter_expression
enter level.Conjunction = enter_conjunction
enter level.Negation = enter_negation
enter level.Comparison = enter_comparison
enter level.Sum = enter_sum
enter level.Term = enter_term
enter level.Unary = enter_unary
enter level.Atom = enter_atom

-- the line that the operands of a line stand on
abbrev pub tighter : Level → Level
tighter level.Expression = level.Conjunction
tighter level.Conjunction = level.Negation
tighter level.Negation = level.Comparison
tighter level.Comparison = level.Sum
tighter level.Sum = level.Term
tighter level.Term = level.Unary
tighter level.Unary = level.Atom
tighter level.Atom = level.Atom

-- what follows an operator and its operand
abbrev pub again : Level → ℕ → Stack → Stack
again level.Comparison d k = k
again l d k = Rest l d ∷ k

-- Tests of the first token.

-- an operator of that line
abbrev pub is_operator : Level → Token → Bool
is_operator l (token.Binary o) = joins l o
is_operator l _ = false

-- that mark
abbrev pub is_mark : Mark → Token → Bool
is_mark m (token.Mark o) = same_mark m o
is_mark m _ = false

-- a list that begins with that mark
abbrev pub begins_with : Mark → List Token → Bool
begins_with m [] = false
begins_with m (t ∷ ts) = is_mark m t

-- what opens a subscript
abbrev pub is_subscript : Token → Bool
is_subscript t = is_mark mark.OpenBracket t

-- the symbol <=
abbrev pub is_at_most : Token → Bool
is_at_most (token.Binary op.AtMost) = true
is_at_most _ = false

-- a rule's word
abbrev pub is_rule : Token → Bool
is_rule (token.Name x) = is_one_of rule_words x.text
is_rule _ = false

-- The first token, or else what comes behind.

-- an operator of that line
abbrev pub at_rest : Level → ℕ → Token → Stack → Move → Move
at_rest l d t k other = if is_operator l t then Next (Operand (tighter l) d ∷ again l d k) else other

-- a subscript
abbrev pub at_subscript : ℕ → Token → Stack → Move → Move
at_subscript d t k other = if is_subscript t then deeper d (λ i. Operand level.Expression i ∷ (Want mark.CloseBracket ∷ k)) else other

-- that mark
abbrev pub at_mark : Mark → Token → Stack → Move → Move
at_mark m t k other = if is_mark m t then Next k else other

-- a name
abbrev pub at_name : Token → Stack → Move → Move
at_name (token.Name x) k other = Next k
at_name _ k other = other

-- a number
abbrev pub at_number : Token → Stack → Move → Move
at_number (token.Number n) k other = Next k
at_number _ k other = other

-- a rule's word
abbrev pub at_rule : Token → Stack → Move → Move
at_rule t k other = if is_rule t then Next k else other

-- the symbol <=
abbrev pub at_at_most : Token → Stack → Move → Move
at_at_most t k other = if is_at_most t then Next k else other

-- `:=`, an expression and a semicolon
abbrev pub assignment : ℕ → Stack → Stack
assignment d k = Want mark.Becomes ∷ (Operand level.Expression d ∷ (Want mark.Semicolon ∷ k))

-- the bounds of a loop
abbrev pub loop_head : ℕ → Stack → Stack
loop_head d k = Operand level.Expression d ∷ (Want mark.To ∷ (Operand level.Expression d ∷ (Want mark.Do ∷ k)))

-- what stands behind the name of a loop
abbrev pub turns : ℕ → ℕ → Stack → Stack
turns b d k = loop_head d (Statements b d ∷ (Want mark.End ∷ k))

-- the high bound and the locals of a pardo
abbrev pub pardo_high : ℕ → Stack → Stack
pardo_high d k = Operand level.Sum d ∷ (Want mark.Pardo ∷ (Locals ∷ k))

-- what stands behind the low bound of a pardo and the symbol <=, as far as its statements
abbrev pub pardo_rest : ℕ → Stack → Stack
pardo_rest d k = WantName ∷ (WantAtMost ∷ pardo_high d k)

-- the low bound and the index of a pardo, and what stands behind them
abbrev pub pardo_low : ℕ → Stack → Stack
pardo_low d k = Operand level.Sum d ∷ (WantAtMost ∷ (WantName ∷ (WantAtMost ∷ k)))

-- the bounds, the index and the locals of a pardo
abbrev pub pardo_head : ℕ → Stack → Stack
pardo_head d k = Operand level.Sum d ∷ (WantAtMost ∷ pardo_rest d k)

-- what stands behind the low bound of a pardo and the symbol <=
abbrev pub range : ℕ → ℕ → Stack → Stack
range b d k = pardo_rest d (Statements b d ∷ (Want mark.End ∷ k))

-- what stands behind the `for` of a pardo
abbrev pub ranged : ℕ → ℕ → Stack → Stack
ranged b d k = pardo_head d (Statements b d ∷ (Want mark.End ∷ k))

-- what stands behind `for`
abbrev pub for_head : ℕ → ℕ → Token → Stack → Move
for_head b d (token.Name x) k = Next (ForName b d ∷ k)
for_head b d t k = enter_sum d t (WantAtMost ∷ range b d k)

-- what stands behind `for` and a name
abbrev pub for_name : ℕ → ℕ → Token → Stack → Move
for_name b d t k =
    at_mark mark.Becomes t (turns b d k)
    (at_subscript d t (Rest level.Term d ∷ (Rest level.Sum d ∷ (WantAtMost ∷ range b d k)))
    (at_rest level.Term d t (Rest level.Sum d ∷ (WantAtMost ∷ range b d k))
    (at_rest level.Sum d t (WantAtMost ∷ range b d k)
    (at_at_most t (range b d k) Refused))))

-- the rest of a statement that begins with that word
abbrev pub opened : ℕ → ℕ → Opening → Stack → Move
opened b d opening.Print k = Next (Operand level.Expression d ∷ (Want mark.Semicolon ∷ k))
opened b d opening.While k = deeper b (λ i. Operand level.Expression d ∷ (Want mark.Do ∷ (Statements i d ∷ (Want mark.End ∷ k))))
opened b d opening.If k = deeper b (λ i. Operand level.Expression d
    ∷ (Want mark.Then ∷ (Statements i d ∷ (Else i d ∷ (Want mark.End ∷ k)))))
opened b d opening.For k = deeper b (λ i. ForHead i d ∷ k)

-- the rest of a statement
abbrev pub at_statement : ℕ → ℕ → Token → Stack → Move → Move
at_statement b d (token.Name x) k other = Next (AfterName b d ∷ k)
at_statement b d (token.Opening o at) k other = opened b d o k
at_statement b d _ k other = other

-- "rule" RULE ";" "procs" NUMBER ";"
abbrev pub header : Stack → Stack
header k = Want mark.Rule ∷ (WantRule ∷ (Want mark.Semicolon ∷ (Want mark.Procs ∷ (WantNumber ∷ (Want mark.Semicolon ∷ k)))))

-- a program, and then k
abbrev pub program : (b d : ℕ) → Stack → Stack
program b d k = header (Declarations ∷ (Want mark.Begin ∷ (Statements b d ∷ (Want mark.End ∷ k))))

-- the bounds of an array and what closes them
abbrev pub bounds : Stack → Stack
bounds k = WantNumber ∷ (Want mark.Range ∷ (WantNumber ∷ (Want mark.CloseBracket ∷ (Want mark.Semicolon ∷ k))))

-- the rest of a declaration
abbrev pub at_declaration : Token → Stack → Move → Move
at_declaration t k other = at_mark mark.Shared t (WantName
    ∷ (AfterShared ∷ k)) (at_mark mark.Var t (WantName ∷ (Want mark.Semicolon ∷ k)) other)
