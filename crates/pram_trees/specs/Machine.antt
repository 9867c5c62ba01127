-- A machine that reads tokens, and what becomes of a list of them.
use Rattle.std.specs.Prelude.{ℕ, Bool, true, false, List, [], ◌∷◌, length, if◌then◌else◌}
use Rattle.pram_trees.specs.declared.level.Level.TheVariants as level
use Rattle.pram_tokens.specs.declared.token.Mark.TheVariants as mark
use Rattle.pram_tokens.specs.declared.token.Opening.{Opening}
use Rattle.pram_tokens.specs.declared.token.Token.{Token}
use Rattle.pram_tokens.specs.declared.token.Token.TheVariants as token
use Rattle.pram_trees.specs.Symbols.{Operand, Rest, Subscript, Want, WantRule, WantName, WantNumber, WantAtMost, Declarations, AfterShared}
use Rattle.pram_trees.specs.Symbols.{Statements, AfterName, ForHead, ForName, Else, Locals, Stack, Move, Next, Refused, TooDeep, enter}
use Rattle.pram_trees.specs.Symbols.{at_rest, at_subscript, at_mark, at_name, at_number, at_rule, at_at_most, assignment, for_head}
use Rattle.pram_trees.specs.Symbols.{for_name, opened, at_statement, bounds, at_declaration, program}

-- what the next token does to what is expected
abbrev pub step : Stack → Token → Move
step [] t = Refused
step (Operand l d ∷ k) t = enter l d t k
step (Rest l d ∷ k) t = at_rest l d t k (step k t)
step (Subscript d ∷ k) t = at_subscript d t k (step k t)
step (Want m ∷ k) t = at_mark m t k Refused
step (WantRule ∷ k) t = at_rule t k Refused
step (WantName ∷ k) t = at_name t k Refused
step (WantNumber ∷ k) t = at_number t k Refused
step (WantAtMost ∷ k) t = at_at_most t k Refused
step (Declarations ∷ k) t = at_declaration t (Declarations ∷ k) (step k t)
step (AfterShared ∷ k) t = at_mark mark.Semicolon t k (at_mark mark.OpenBracket t (bounds k) Refused)
step (Statements b d ∷ k) t = at_statement b d t (Statements b d ∷ k) (step k t)
step (AfterName b d ∷ k) t =
    at_mark mark.Becomes t (Operand level.Expression d ∷ (Want mark.Semicolon ∷ k)) (at_subscript d t (assignment d k) Refused)
step (ForHead b d ∷ k) t = for_head b d t k
step (ForName b d ∷ k) t = for_name b d t k
step (Else b d ∷ k) t = at_mark mark.Else t (Statements b d ∷ k) (step k t)
step (Locals ∷ k) t = at_mark mark.Local t (WantName ∷ (Want mark.Semicolon ∷ (Locals ∷ k))) (step k t)

-- whether what is expected may be nothing
abbrev pub may_end : Stack → Bool
may_end [] = true
may_end (Rest l d ∷ k) = may_end k
may_end (Subscript d ∷ k) = may_end k
may_end (Declarations ∷ k) = may_end k
may_end (Statements b d ∷ k) = may_end k
may_end (Else b d ∷ k) = may_end k
may_end (Locals ∷ k) = may_end k
may_end (s ∷ k) = false

-- what becomes of a list of tokens, with the number of tokens from the first bad one on
pub data Verdict : Type 0 where
  Accepted : Verdict
  SyntaxAt : ℕ → Verdict
  TooDeepAt : ℕ → Verdict

-- what a move makes of the tokens behind
abbrev pub on_move : Move → (Stack → Verdict) → ℕ → Verdict
on_move (Next k) go left = go k
on_move Refused go left = SyntaxAt left
on_move TooDeep go left = TooDeepAt left

-- what becomes of tokens where this is expected
abbrev pub verdict : List Token → Stack → Verdict
verdict [] k = if may_end k then Accepted else SyntaxAt 0
verdict (t ∷ ts) k = on_move (step k t) (verdict ts) (length (t ∷ ts))

-- a list of tokens that begins with a statement
abbrev pub statement_verdict : ℕ → ℕ → List Token → Stack → Verdict
statement_verdict b d [] k = SyntaxAt 0
statement_verdict b d (t ∷ ts) k = on_move (at_statement b d t k Refused) (verdict ts) (length (t ∷ ts))

-- the rest of a statement behind that word, which was the first of `left` tokens
abbrev pub opened_verdict : ℕ → ℕ → ℕ → Opening → List Token → Stack → Verdict
opened_verdict b d left o ts k = on_move (opened b d o k) (verdict ts) left

-- whether a statement begins at the front
abbrev pub begins_statement : List Token → Bool
begins_statement (token.Name x ∷ ts) = true
begins_statement (token.Opening o at ∷ ts) = true
begins_statement _ = false

-- a list of tokens that begins with a declaration
abbrev pub declaration_verdict : List Token → Stack → Verdict
declaration_verdict [] k = SyntaxAt 0
declaration_verdict (t ∷ ts) k = on_move (at_declaration t k Refused) (verdict ts) (length (t ∷ ts))

-- whether a declaration begins at the front
abbrev pub begins_declaration : List Token → Bool
begins_declaration (token.Mark mark.Shared ∷ ts) = true
begins_declaration (token.Mark mark.Var ∷ ts) = true
begins_declaration _ = false

-- statements, `end` and nothing more
abbrev pub statements_and_end : (b d : ℕ) → Stack
statements_and_end b d = Statements b d ∷ (Want mark.End ∷ [])

-- a program and nothing more
abbrev pub start : (b d : ℕ) → Stack
start b d = program b d []
