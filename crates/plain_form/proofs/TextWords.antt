-- The words of a program's body are no more than its text's.
use Rattle.std.proofs.Common.{◌≡◌, ℕ, ◌+◌, ◌≤◌, List, [], ◌∷◌, ◌++◌, Option, Some, None, length, refl, sym, ap, ◌∙◌, arith}
use Rattle.std.proofs.Common.{length-append, Global, Vec}
use Rattle.std.proofs.lemmas.List.{append-nil}
use Rattle.pram_tokens.specs.declared.token.Token.TheVariants as token
use Rattle.pram_tokens.specs.declared.token.Mark.TheVariants as mark
use Rattle.pram_tokens.specs.declared.token.Binary.{Binary}
use Rattle.pram_tokens.specs.declared.token.Binary.TheVariants as op
use Rattle.pram_tokens.specs.declared.token.Location.{Location}
use Rattle.pram_tokens.specs.declared.token.Name.{Name}
use Rattle.pram_trees.specs.declared.tree.Expr.{Expr}
use Rattle.pram_trees.specs.declared.tree.Stmt.{Stmt}
use Rattle.pram_trees.specs.declared.tree.Stmt.TheVariants as st
use Rattle.pram_trees.specs.Grammar.{tokens, step_tokens}
use Rattle.pram_trees.specs.Blocks.{statement_tokens, block_tokens, else_tokens, local_tokens}
use Rattle.pram_trees.specs.Program.{program_tokens, declarations_tokens}
use Rattle.pram_trees.proofs.ExprTokens.{tokens-Number, tokens-Name, tokens-Element, tokens-Paren, tokens-Prefix, tokens-Chain}
use Rattle.pram_trees.proofs.StmtTokens.{spell_print, spell_while, spell_if_then, spell_if_else, spell_for, spell_pardo}
use Rattle.pram_names.specs.declared.body.Expression.{Expression, Row_of-Link, end_of-Link, more_of-Link, items-the_row-Link}
use Rattle.pram_names.specs.declared.body.Expression.{items_hidden-the_row-Link-0}
use Rattle.pram_names.specs.declared.body.Expression.TheBlock.{hidden-the_row-Link-0}
use Rattle.pram_names.specs.declared.body.Link.{Link}
use Rattle.pram_names.specs.declared.body.Step.{Step, Row_of-Step, end_of-Step, more_of-Step, items-the_row-Step}
use Rattle.pram_names.specs.declared.body.Step.{items_hidden-the_row-Step-0}
use Rattle.pram_names.specs.declared.body.Step.TheBlock.{hidden-the_row-Step-0}
use Rattle.pram_names.specs.declared.body.Statement.{Statement, Row_of-Statement, end_of-Statement, more_of-Statement}
use Rattle.pram_names.specs.declared.body.Statement.{items-the_row-Statement, items_hidden-the_row-Statement-0}
use Rattle.pram_names.specs.declared.body.Statement.TheBlock.{hidden-the_row-Statement-0}
use Rattle.pram_names.specs.Scope.{Scope, inner_scope}
use Rattle.pram_names.specs.Resolved.{Says, SayLinks, SaysStep, SaySteps, SayElse, SaysStatement, SayStatements, SayOther}
use Rattle.pram_names.specs.Resolved as says
use Rattle.pram_names.specs.declared.body.StepTarget.{StepTarget}
use Rattle.pram_names.specs.declared.body.Target.{Target}
use Rattle.pram_names.specs.Resolved.{SaysInner, SaysTarget}
use Rattle.pram_check.specs.Bounded.{nodes, link_nodes, target_nodes, inner_target_nodes}
use Rattle.pram_check.specs.Checked.{Checked, IsResolved}
use Rattle.pram_check.proofs.BoundedSteps.{assign_form, element_form}
use Rattle.plain_form.specs.Sizes.{step_words, part_step_words, steps_words, words, part_words, body_words, CodeFits}
use Rattle.plain_form.proofs.StatementLengths.{code_is_short}

-- ---- expressions

abbrev all_nodes : List Link → ℕ
all_nodes [] = 0
all_nodes (l ∷ ls) = 1 + nodes l.operand + all_nodes ls

nodes_row : {n : _} (k : Row_of-Link n) → link_nodes k ≡ all_nodes (items-the_row-Link n k)
nodes_row end_of-Link = refl
nodes_row (more_of-Link o e k) = ap (λ n. 1 + nodes e + n) (nodes_row k)

mutual
  few_nodes : (scope : Scope) (x : Expr) (y : Expression) → Says scope x y → nodes y ≤ length (tokens x)
  few_nodes scope _ _ (says.number n) = let t = ap length (tokens-Number n) in omega (arith, t)
  few_nodes scope _ _ (says.uniform x k is) = let t = ap length (tokens-Name x) in omega (arith, t)
  few_nodes scope _ _ (says.index x is) = let t = ap length (tokens-Name x) in omega (arith, t)
  few_nodes scope _ _ (says.local x k is) = let t = ap length (tokens-Name x) in omega (arith, t)
  few_nodes scope _ _ (says.cell x k is) = let t = ap length (tokens-Name x) in omega (arith, t)
  few_nodes scope _ _ (says.element x k i j is said) =
      let h : nodes j.value ≤ length (tokens i) = few_nodes scope i j.value said in
      let t = ap length (tokens-Element x i) in
      let a = length-append (tokens i) (token.Mark mark.CloseBracket ∷ []) in
      omega (arith, h, t, a)
  few_nodes scope _ _ (says.paren i x said) =
      let h : nodes x ≤ length (tokens i) = few_nodes scope i x said in
      let t = ap length (tokens-Paren i) in
      let a = length-append (tokens i) (token.Mark mark.CloseParen ∷ []) in
      omega (arith, h, t, a)
  few_nodes scope _ _ (says.prefix p i j said) =
      let h : nodes j.value ≤ length (tokens i) = few_nodes scope i j.value said in
      let t = ap length (tokens-Prefix p i) in
      omega (arith, h, t)
  few_nodes scope _ _ (says.chain first rest x links said linked) =
      let h : nodes x.value ≤ length (tokens first) = few_nodes scope first x.value said in
      let k : all_nodes links.items ≤ length (step_tokens rest) = few_link_nodes scope rest links.items linked in
      let n : link_nodes (hidden-the_row-Link-0 links) ≡ all_nodes links.items =
      nodes_row (hidden-the_row-Link-0 links) ∙ ap all_nodes (items_hidden-the_row-Link-0 links) in
      let t = ap length (tokens-Chain first rest) in
      let a = length-append (tokens first) (step_tokens rest) in
      omega (arith, h, k, n, t, a)

  few_link_nodes : (scope : Scope) (rest : List (Binary × Expr)) (links : List Link) → SayLinks scope rest links →
      all_nodes links ≤ length (step_tokens rest)
  few_link_nodes scope _ _ says.none = omega arith
  few_link_nodes scope _ _ (says.more o i rest x links here behind) =
      let h : nodes x ≤ length (tokens i) = few_nodes scope i x here in
      let k : all_nodes links ≤ length (step_tokens rest) = few_link_nodes scope rest links behind in
      let a = length-append (tokens i) (step_tokens rest) in
      omega (arith, h, k, a)

-- ---- how long the tokens of a statement are

assign_long : (x : Name) (v : Expr) → length (statement_tokens (st.Assign x v)) ≡ 3 + length (tokens v)
assign_long x v =
    let s = ap length (assign_form x v) in
    let a = length-append (tokens v) (token.Mark mark.Semicolon ∷ []) in
    omega (arith, s, a)

element_long : (x : Name) (i v : Expr) → length (statement_tokens (st.AssignElement x i v)) ≡ 5 + length (tokens i) + length (tokens v)
element_long x i v =
    let s = ap length (element_form x i v) in
    let rest = tokens v ++ (token.Mark mark.Semicolon ∷ []) in
    let a = length-append (tokens i) (token.Mark mark.CloseBracket ∷ (token.Mark mark.Becomes ∷ rest)) in
    let b = length-append (tokens v) (token.Mark mark.Semicolon ∷ []) in
    omega (arith, s, a, b)

print_long : (l : Location) (v : Expr) → length (statement_tokens (st.Print l v)) ≡ 2 + length (tokens v)
print_long l v =
    let s = ap length (sym (append-nil (statement_tokens (st.Print l v))) ∙ spell_print [] l v) in
    let a = length-append (tokens v) (token.Mark mark.Semicolon ∷ []) in
    omega (arith, s, a)

while_long : (l : Location) (v : Expr) (body : List Stmt) → length (statement_tokens (st.While l v body))
    ≡ 3 + length (tokens v) + length (block_tokens body)
while_long l v body =
    let s = ap length (sym (append-nil (statement_tokens (st.While l v body))) ∙ spell_while [] l v body) in
    let a = length-append (tokens v) (token.Mark mark.Do ∷ (block_tokens body ++ (token.Mark mark.End ∷ []))) in
    let b = length-append (block_tokens body) (token.Mark mark.End ∷ []) in
    omega (arith, s, a, b)

if_long : (l : Location) (v : Expr) (body : List Stmt) (other : Option (List Stmt)) → length (statement_tokens (st.If l v body other))
    ≡ 3 + length (tokens v) + length (block_tokens body) + length (else_tokens other)
if_long l v body None =
    let s = ap length (sym (append-nil (statement_tokens (st.If l v body None))) ∙ spell_if_then [] l v body) in
    let a = length-append (tokens v) (token.Mark mark.Then ∷ (block_tokens body ++ (token.Mark mark.End ∷ []))) in
    let b = length-append (block_tokens body) (token.Mark mark.End ∷ []) in
    omega (arith, s, a, b)
if_long l v body (Some other) =
    let s = ap length (sym (append-nil (statement_tokens (st.If l v body (Some other)))) ∙ spell_if_else [] l v body other) in
    let end = block_tokens other ++ (token.Mark mark.End ∷ []) in
    let a = length-append (tokens v) (token.Mark mark.Then ∷ (block_tokens body ++ (token.Mark mark.Else ∷ end))) in
    let b = length-append (block_tokens body) (token.Mark mark.Else ∷ end) in
    let c = length-append (block_tokens other) (token.Mark mark.End ∷ []) in
    omega (arith, s, a, b, c)

for_long : (l : Location) (x : Name) (low high : Expr) (body : List Stmt) → length (statement_tokens (st.For l x low high body))
    ≡ 6 + length (tokens low) + length (tokens high) + length (block_tokens body)
for_long l x low high body =
    let s = ap length (sym (append-nil (statement_tokens (st.For l x low high body))) ∙ spell_for [] l x low high body) in
    let end = block_tokens body ++ (token.Mark mark.End ∷ []) in
    let a = length-append (tokens low) (token.Mark mark.To ∷ (tokens high ++ (token.Mark mark.Do ∷ end))) in
    let b = length-append (tokens high) (token.Mark mark.Do ∷ end) in
    let c = length-append (block_tokens body) (token.Mark mark.End ∷ []) in
    omega (arith, s, a, b, c)

pardo_long : (l : Location) (low : Expr) (x : Name) (high : Expr) (locals : List Name) (body : List Stmt) →
    6 + length (tokens low) + length (tokens high) + length (block_tokens body)
    ≤ length (statement_tokens (st.Pardo l low x high locals body))
pardo_long l low x high locals body =
    let s = ap length (sym (append-nil (statement_tokens (st.Pardo l low x high locals body))) ∙ spell_pardo [] l low x high locals body) in
    let end = block_tokens body ++ (token.Mark mark.End ∷ []) in
    let rest = tokens high ++ (token.Mark mark.Pardo ∷ (local_tokens locals ++ end)) in
    let a = length-append (tokens low) (token.Binary op.AtMost ∷ (token.Name x ∷ (token.Binary op.AtMost ∷ rest))) in
    let b = length-append (tokens high) (token.Mark mark.Pardo ∷ (local_tokens locals ++ end)) in
    let c = length-append (local_tokens locals) end in
    let d = length-append (block_tokens body) (token.Mark mark.End ∷ []) in
    omega (arith, s, a, b, c, d)

-- ---- statements

steps_row : {k : _} (ss : Row_of-Step k) → part_step_words ss ≡ steps_words (items-the_row-Step k ss)
steps_row end_of-Step = refl
steps_row (more_of-Step s ss) = ap (λ n. step_words s + n) (steps_row ss)

part_of_steps : (body : Vec Step Global) → part_step_words (hidden-the_row-Step-0 body) ≡ steps_words body.items
part_of_steps body = steps_row (hidden-the_row-Step-0 body) ∙ ap steps_words (items_hidden-the_row-Step-0 body)

statements_row : {k : _} (ss : Row_of-Statement k) → part_words ss ≡ body_words (items-the_row-Statement k ss)
statements_row end_of-Statement = refl
statements_row (more_of-Statement s ss) = ap (λ n. words s + n) (statements_row ss)

part_of_statements : (body : Vec Statement Global) → part_words (hidden-the_row-Statement-0 body) ≡ body_words body.items
part_of_statements body = statements_row (hidden-the_row-Statement-0 body) ∙ ap body_words (items_hidden-the_row-Statement-0 body)

inner_target : (scope : Scope) (x : Name) (t : StepTarget) → SaysInner scope x t → inner_target_nodes t ≡ 1
inner_target scope x _ (says.local k is) = refl
inner_target scope x _ (says.cell k is) = refl

outer_target : (scope : Scope) (x : Name) (t : Target) → SaysTarget scope x t → target_nodes t ≡ 1
outer_target scope x _ (says.uniform k is) = refl
outer_target scope x _ (says.cell k is) = refl

mutual
  few_step_words : (scope : Scope) (x : Stmt) (y : Step) → SaysStep scope x y → step_words y ≤ length (statement_tokens x)
  few_step_words scope _ _ (says.assign x v t y to said) =
      let h = few_nodes scope v y said in
      let o = inner_target scope x t to in
      let l = assign_long x v in
      omega (arith, h, o, l)
  few_step_words scope _ _ (says.assign_element x i v k j y is sub said) =
      let h = few_nodes scope v y said in
      let g = few_nodes scope i j sub in
      let l = element_long x i v in
      omega (arith, h, g, l)
  few_step_words scope _ _ (says.while l test body y steps said inside) =
      let h = few_nodes scope test y said in
      let g : steps_words steps.items ≤ length (block_tokens body) = few_steps_words scope body steps.items inside in
      let p = part_of_steps steps in
      let m = while_long l test body in
      omega (arith, h, g, p, m)
  few_step_words scope _ _ (says.if_else l test body other y steps others said inside behind) =
      let h = few_nodes scope test y said in
      let g : steps_words steps.items ≤ length (block_tokens body) = few_steps_words scope body steps.items inside in
      let i : steps_words others.items ≤ length (else_tokens other) = few_else_words scope other others.items behind in
      let p = part_of_steps steps in
      let q = part_of_steps others in
      let m = if_long l test body other in
      omega (arith, h, g, i, p, q, m)

  few_else_words : (scope : Scope) (other : Option (List Stmt)) (ys : List Step) → SayElse scope other ys →
      steps_words ys ≤ length (else_tokens other)
  few_else_words scope _ _ says.missing = omega arith
  few_else_words scope _ _ (says.present other steps inside) =
      let h : steps_words steps ≤ length (block_tokens other) = few_steps_words scope other steps inside in omega (arith, h)

  few_steps_words : (scope : Scope) (body : List Stmt) (ys : List Step) → SaySteps scope body ys → steps_words ys ≤ length
      (block_tokens body)
  few_steps_words scope _ _ says.none = omega arith
  few_steps_words scope _ _ (says.more x rest y others here behind) =
      let h : step_words y ≤ length (statement_tokens x) = few_step_words scope x y here in
      let k : steps_words others ≤ length (block_tokens rest) = few_steps_words scope rest others behind in
      let a = length-append (statement_tokens x) (block_tokens rest) in
      omega (arith, h, k, a)

mutual
  few_words : (scope : Scope) (x : Stmt) (y : Statement) → SaysStatement scope x y → words y ≤ length (statement_tokens x)
  few_words scope _ _ (says.assign x v t y to said) =
      let h = few_nodes scope v y said in
      let o = outer_target scope x t to in
      let l = assign_long x v in
      omega (arith, h, o, l)
  few_words scope _ _ (says.assign_element x i v k j y is sub said) =
      let h = few_nodes scope v y said in
      let g = few_nodes scope i j sub in
      let l = element_long x i v in
      omega (arith, h, g, l)
  few_words scope _ _ (says.print l v y said) =
      let h = few_nodes scope v y said in
      let m = print_long l v in
      omega (arith, h, m)
  few_words scope _ _ (says.while l test body y inside said inner) =
      let h = few_nodes scope test y said in
      let g : body_words inside.items ≤ length (block_tokens body) = few_body_words scope body inside.items inner in
      let p = part_of_statements inside in
      let m = while_long l test body in
      omega (arith, h, g, p, m)
  few_words scope _ _ (says.if_else l test body other y inside others said inner behind) =
      let h = few_nodes scope test y said in
      let g : body_words inside.items ≤ length (block_tokens body) = few_body_words scope body inside.items inner in
      let i : body_words others.items ≤ length (else_tokens other) = few_other_words scope other others.items behind in
      let p = part_of_statements inside in
      let q = part_of_statements others in
      let m = if_long l test body other in
      omega (arith, h, g, i, p, q, m)
  few_words scope _ _ (says.for_to l x low high body k a b inside is says_low says_high inner) =
      let h = few_nodes scope low a says_low in
      let i = few_nodes scope high b says_high in
      let g : body_words inside.items ≤ length (block_tokens body) = few_body_words scope body inside.items inner in
      let p = part_of_statements inside in
      let m = for_long l x low high body in
      omega (arith, h, i, g, p, m)
  few_words scope _ _ (says.pardo l low x high locals body a b steps says_low says_high inner) =
      let h = few_nodes scope low a says_low in
      let i = few_nodes scope high b says_high in
      let g = few_steps_words (inner_scope scope x locals) body steps.items inner in
      let m = pardo_long l low x high locals body in
      omega (arith, h, i, g, m)

  few_other_words : (scope : Scope) (other : Option (List Stmt)) (ys : List Statement) → SayOther scope other ys →
      body_words ys ≤ length (else_tokens other)
  few_other_words scope _ _ says.missing = omega arith
  few_other_words scope _ _ (says.present other others inside) =
      let h : body_words others ≤ length (block_tokens other) = few_body_words scope other others inside in omega (arith, h)

  few_body_words : (scope : Scope) (body : List Stmt) (ys : List Statement) → SayStatements scope body ys →
      body_words ys ≤ length (block_tokens body)
  few_body_words scope _ _ says.none = omega arith
  few_body_words scope _ _ (says.more x rest y others here behind) =
      let h : words y ≤ length (statement_tokens x) = few_words scope x y here in
      let k : body_words others ≤ length (block_tokens rest) = few_body_words scope rest others behind in
      let a = length-append (statement_tokens x) (block_tokens rest) in
      omega (arith, h, k, a)

-- ---- programs

pub words_in_text : (p : Checked) → IsResolved p → body_words p.body + 8 ≤ length (program_tokens p.tree)
words_in_text p r =
    let t = p.tree in
    let h = few_body_words _ t.body p.body r.body in
    let tail = block_tokens t.body ++ token.Mark mark.End ∷ [] in
    let a = length-append (declarations_tokens t.declarations) (token.Mark mark.Begin ∷ tail) in
    let b = length-append (block_tokens t.body) (token.Mark mark.End ∷ []) in
    omega (arith, h, a, b)

pub code_fits : CodeFits
code_fits keep p r few =
    let h = words_in_text p r in
    let k = code_is_short keep p in
    omega (arith, h, k, few)
