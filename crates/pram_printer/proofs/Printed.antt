-- The spelling of each form of expression and statement, and printing one part behind the other.
use Rattle.std.proofs.Common.{◌≡◌, ℕ, List, [], ◌∷◌, ◌++◌, Bool, true, false, refl, sym, ap, ◌∙◌, subst, append_assoc, suc, ◌+◌, ◌<◌, ◌≤◌}
use Rattle.std.proofs.Common.{length, drop, drop-cons, get_or, add-one}
use Rattle.std.proofs.lemmas.List.{append-nil, drop_all}
use Rattle.std.specs.Prelude.{Option, Some, None}
use Rattle.pram_tokens.specs.declared.token.Binary.{Binary}
use Rattle.pram_tokens.specs.declared.token.Mark.{Mark}
use Rattle.pram_tokens.specs.declared.token.Mark.TheVariants as mark
use Rattle.pram_tokens.specs.declared.token.Name.{Name}
use Rattle.pram_tokens.specs.declared.token.Numeral.{Numeral}
use Rattle.pram_tokens.specs.declared.token.Token.{Token}
use Rattle.pram_tokens.specs.declared.token.Token.TheVariants as token
use Rattle.pram_tokens.specs.declared.token.Binary.TheVariants as op
use Rattle.pram_tokens.specs.declared.token.Opening.{Opening}
use Rattle.pram_tokens.specs.declared.token.Opening.TheVariants as opening
use Rattle.pram_tokens.specs.declared.token.Location.{Location}
use Rattle.pram_trees.specs.declared.tree.Stmt.{Stmt}
use Rattle.pram_trees.specs.declared.tree.Stmt.TheVariants as s
use Rattle.pram_trees.specs.Blocks.{statement_tokens, block_tokens, else_tokens, local_tokens}
use Rattle.pram_trees.specs.declared.tree.Prefix.{Prefix}
use Rattle.pram_trees.specs.declared.tree.Expr.{Expr}
use Rattle.pram_trees.specs.declared.tree.Expr.TheVariants as e
use Rattle.pram_trees.specs.Grammar.{tokens, step_tokens, prefix_token}
use Rattle.text_out.specs.Printing.{Printing, Prints, PrintsBy, printing}
use Rattle.pram_trees.specs.Program.{ProgramTree, declarations_tokens, header_tokens, program_tokens}
use Rattle.pram_printer.specs.Spelling.{opening_text, spelled, spelling}
use Rattle.pram_trees.proofs.ExprTokens.{tokens-Number, tokens-Name, tokens-Element, tokens-Paren, tokens-Prefix, tokens-Chain}
use Rattle.pram_trees.proofs.StmtTokens.{spell_assign, spell_assign_element, spell_print, spell_while, spell_if_then, spell_if_else}
use Rattle.pram_trees.proofs.StmtTokens.{spell_for, spell_pardo}

pub spelling-append : (a b : List Token) → spelling (a ++ b) ≡ spelling a ++ spelling b
spelling-append [] b = refl
spelling-append (t ∷ a) b = ap (λ l. spelled t ++ l) (spelling-append a b) ∙ sym (append_assoc (spelled t) (spelling a) (spelling b))

pub spelling-Number : (n : Numeral) → spelling (tokens (e.Number n)) ≡ spelled (token.Number n)
spelling-Number n = ap spelling (tokens-Number n) ∙ append-nil (spelled (token.Number n))

pub spelling-Name : (x : Name) → spelling (tokens (e.Name x)) ≡ spelled (token.Name x)
spelling-Name x = ap spelling (tokens-Name x) ∙ append-nil (spelled (token.Name x))

pub spelling-Paren : (i : Expr) → spelling (tokens (e.Paren i)) ≡ spelled (token.Mark mark.OpenParen)
    ++ (spelling (tokens i) ++ spelled (token.Mark mark.CloseParen))
spelling-Paren i = ap spelling (tokens-Paren i)
    ∙ ap (λ l. spelled (token.Mark mark.OpenParen) ++ l) (spelling-append (tokens i) (token.Mark mark.CloseParen ∷ []))

pub spelling-Element : (x : Name) (i : Expr) → spelling (tokens (e.Element x i))
    ≡ spelled (token.Name x) ++ (spelled (token.Mark mark.OpenBracket) ++ (spelling (tokens i) ++ spelled (token.Mark mark.CloseBracket)))
spelling-Element x i =
    ap spelling (tokens-Element x i)
    ∙ ap (λ l. spelled (token.Name x) ++ (spelled (token.Mark mark.OpenBracket) ++ l))
    (spelling-append (tokens i) (token.Mark mark.CloseBracket ∷ []))

pub spelling-Prefix : (p : Prefix) (i : Expr) → spelling (tokens (e.Prefix p i)) ≡ spelled (prefix_token p) ++ spelling (tokens i)
spelling-Prefix p i = ap spelling (tokens-Prefix p i)

pub spelling-Chain : (first : Expr) (rest : List (Binary × Expr)) → spelling (tokens (e.Chain first rest)) ≡ spelling (tokens first)
    ++ spelling (step_tokens rest)
spelling-Chain first rest = ap spelling (tokens-Chain first rest) ∙ spelling-append (tokens first) (step_tokens rest)

-- an operator and the operand behind it
abbrev pub step_text : Binary × Expr → List ℕ
step_text s = spelled (token.Binary s.0) ++ spelling (tokens s.1)

pub step_more : (y : Binary × Expr) (ys : List (Binary × Expr)) → spelling (step_tokens (y ∷ ys)) ≡ step_text y ++ spelling (step_tokens ys)
step_more y ys =
    ap (λ l. spelled (token.Binary y.0) ++ l) (spelling-append (tokens y.1) (step_tokens ys))
    ∙ sym (append_assoc (spelled (token.Binary y.0)) (spelling (tokens y.1)) (spelling (step_tokens ys)))

pub ruleset printed = (spelling-Number, spelling-Name, spelling-Paren, spelling-Element, spelling-Prefix, spelling-Chain)

-- Each form of expression, by the parts that are printed.

pub as_element : (x : Expr) (name : Name) (i j : Expr) → x ≡ e.Element name i → j ≡ i → spelling (tokens x)
    ≡ spelled (token.Name name) ++ (spelled (token.Mark mark.OpenBracket)
    ++ (spelling (tokens j) ++ spelled (token.Mark mark.CloseBracket)))
as_element x name i j is same = ap (λ z. spelling (tokens z)) (is ∙ ap (e.Element name) (sym same)) ∙ spelling-Element name j

pub as_paren : (x i j : Expr) → x ≡ e.Paren i → j ≡ i → spelling (tokens x) ≡ spelled (token.Mark mark.OpenParen)
    ++ (spelling (tokens j) ++ spelled (token.Mark mark.CloseParen))
as_paren x i j is same = ap (λ z. spelling (tokens z)) (is ∙ ap e.Paren (sym same)) ∙ spelling-Paren j

pub as_prefix : (x : Expr) (p : Prefix) (i j : Expr) → x ≡ e.Prefix p i → j ≡ i → spelling (tokens x) ≡ spelled (prefix_token p)
    ++ spelling (tokens j)
as_prefix x p i j is same = ap (λ z. spelling (tokens z)) (is ∙ ap (e.Prefix p) (sym same)) ∙ spelling-Prefix p j

pub as_chain : (x first one : Expr) (rest all : List (Binary × Expr)) → x ≡ e.Chain first rest → one ≡ first → all ≡ rest →
    spelling (tokens x) ≡ spelling (tokens one) ++ spelling (step_tokens all)
as_chain x first one rest all is same same' =
    ap (λ z. spelling (tokens z)) (is ∙ ap (λ z. e.Chain z rest) (sym same) ∙ ap (e.Chain one) (sym same')) ∙ spelling-Chain one all

-- a statement's first word
abbrev pub opened : Opening → List ℕ
opened o = opening_text o ++ 32 ∷ []

abbrev pub marked : Mark → List ℕ
marked m = spelled (token.Mark m)

abbrev pub shown : Expr → List ℕ
shown x = spelling (tokens x)

abbrev pub element_text : Name → Expr → List ℕ
element_text x i = spelled (token.Name x) ++ (marked mark.OpenBracket ++ (shown i ++ marked mark.CloseBracket))

abbrev pub assigned_text : Expr → List ℕ
assigned_text v = marked mark.Becomes ++ (shown v ++ marked mark.Semicolon)

abbrev pub turns_text : Name → Expr → Expr → List ℕ
turns_text x low high = spelled (token.Name x) ++ (marked mark.Becomes ++ (shown low ++ (marked mark.To ++ (shown high ++ marked mark.Do))))

abbrev pub range_text : Expr → Name → Expr → List ℕ
range_text low x high =
    shown low ++ (spelled (token.Binary op.AtMost)
    ++ (spelled (token.Name x) ++ (spelled (token.Binary op.AtMost) ++ (shown high ++ marked mark.Pardo))))

-- Each form of statement.

pub spelling-assign : (x : Name) (v : Expr) → spelling (statement_tokens (s.Assign x v)) ≡ spelled (token.Name x) ++ assigned_text v
spelling-assign x v = ap spelling (sym (append-nil _) ∙ spell_assign [] x v) ∙ simp (spelling-append, append_assoc)

pub spelling-assign_element : (x : Name) (i v : Expr) → spelling (statement_tokens (s.AssignElement x i v)) ≡ element_text x i
    ++ assigned_text v
spelling-assign_element x i v = ap spelling (sym (append-nil _) ∙ spell_assign_element [] x i v) ∙ simp (spelling-append, append_assoc)

pub spelling-print : (at : Location) (v : Expr) → spelling (statement_tokens (s.Print at v)) ≡ opened opening.Print
    ++ (shown v ++ marked mark.Semicolon)
spelling-print at v = ap spelling (sym (append-nil _) ∙ spell_print [] at v) ∙ simp (spelling-append, append_assoc)

pub spelling-while : (at : Location) (c : Expr) (body : List Stmt) → spelling (statement_tokens (s.While at c body))
    ≡ opened opening.While ++ (shown c ++ (marked mark.Do ++ (spelling (block_tokens body) ++ marked mark.End)))
spelling-while at c body = ap spelling (sym (append-nil _) ∙ spell_while [] at c body) ∙ simp (spelling-append, append_assoc)

pub spelling-if : (at : Location) (c : Expr) (body : List Stmt) (other : Option (List Stmt)) →
    spelling (statement_tokens (s.If at c body other))
    ≡ opened opening.If ++ (shown c
    ++ (marked mark.Then ++ (spelling (block_tokens body) ++ (spelling (else_tokens other) ++ marked mark.End))))
spelling-if at c body None = ap spelling (sym (append-nil _) ∙ spell_if_then [] at c body) ∙ simp (spelling-append, append_assoc)
spelling-if at c body (Some other) = ap spelling (sym (append-nil _) ∙ spell_if_else [] at c body other)
    ∙ simp (spelling-append, append_assoc)

pub spelling-for : (at : Location) (x : Name) (low high : Expr) (body : List Stmt) → spelling (statement_tokens (s.For at x low high body))
    ≡ opened opening.For ++ (turns_text x low high ++ (spelling (block_tokens body) ++ marked mark.End))
spelling-for at x low high body = ap spelling (sym (append-nil _) ∙ spell_for [] at x low high body) ∙ simp (spelling-append, append_assoc)

pub spelling-pardo : (at : Location) (low : Expr) (x : Name) (high : Expr) (locals : List Name) (body : List Stmt) →
    spelling (statement_tokens (s.Pardo at low x high locals body))
    ≡ opened opening.For ++ (range_text low x high ++ (spelling (local_tokens locals) ++ (spelling (block_tokens body) ++ marked mark.End)))
spelling-pardo at low x high locals body = ap spelling (sym (append-nil _) ∙ spell_pardo [] at low x high locals body)
    ∙ simp (spelling-append, append_assoc)

pub spelling-program : (p : ProgramTree) → spelling (program_tokens p)
    ≡ spelling (header_tokens p.rule p.rule_location p.procs [])
    ++ (spelling (declarations_tokens p.declarations) ++ (marked mark.Begin ++ (spelling (block_tokens p.body) ++ marked mark.End)))
spelling-program p =
    let end = token.Mark mark.End ∷ [] in
    let rest = token.Mark mark.Begin ∷ (block_tokens p.body ++ end) in
    spelling-append (header_tokens p.rule p.rule_location p.procs []) (declarations_tokens p.declarations ++ rest)
    ∙ ap (λ l. spelling (header_tokens p.rule p.rule_location p.procs []) ++ l) (spelling-append (declarations_tokens p.declarations) rest
    ∙ ap (λ l. spelling (declarations_tokens p.declarations) ++ (marked mark.Begin ++ l)) (spelling-append (block_tokens p.body) end))
