-- What a statement outside pardo says is within bounds.
use Rattle.std.proofs.Common.{◌≡◌, ◌+◌, ◌≤◌, ◌<◌, ℕ, max, false, List, [], ◌∷◌, ◌++◌, Option, None, length, length-append, append_assoc}
use Rattle.std.proofs.Common.{refl, sym, ap, ◌∙◌, subst, arith}
use Rattle.std.proofs.lemmas.List.{append-nil}
use Rattle.std.specs.declared.vec.Vec.{Vec}
use Rattle.std.specs.declared.alloc.Global.{Global}
use Rattle.pram_model.specs.Layout.{SharedEntry}
use Rattle.pram_tokens.specs.declared.token.Binary.TheVariants as op
use Rattle.pram_tokens.specs.declared.token.Location.{Location}
use Rattle.pram_tokens.specs.declared.token.Name.{Name}
use Rattle.pram_tokens.specs.declared.token.Mark.TheVariants as mark
use Rattle.pram_tokens.specs.declared.token.Opening.TheVariants as opening
use Rattle.pram_tokens.specs.declared.token.Token.TheVariants as token
use Rattle.pram_trees.specs.declared.tree.Expr.{Expr}
use Rattle.pram_trees.specs.declared.tree.Stmt.{Stmt}
use Rattle.pram_trees.specs.declared.tree.Stmt.TheVariants as st
use Rattle.pram_trees.specs.Grammar.{tokens}
use Rattle.pram_trees.specs.Blocks.{statement_tokens, block_tokens, else_tokens, local_tokens}
use Rattle.pram_tokens.specs.Tokens.{AreReal}
use Rattle.pram_tokens.proofs.Real.{front_real}
use Rattle.pram_trees.proofs.StmtTokens.{spell_print, spell_for, spell_pardo}
use Rattle.pram_names.specs.declared.body.Expression.{Expression}
use Rattle.pram_names.specs.declared.body.Statement.{Statement, Row_of-Statement, end_of-Statement, items-the_row-Statement}
use Rattle.pram_names.specs.declared.body.Statement.{items_hidden-the_row-Statement-0, more_of-Statement}
use Rattle.pram_names.specs.declared.body.Statement as statement
use Rattle.pram_names.specs.declared.body.Statement.TheBlock.{hidden-the_row-Statement-0}
use Rattle.pram_names.specs.declared.body.Step.{Step}
use Rattle.pram_names.specs.declared.body.Target.{Target}
use Rattle.pram_names.specs.declared.body.Target.TheVariants as target
use Rattle.pram_names.specs.declared.scope.Meaning.{Meaning}
use Rattle.pram_names.specs.declared.scope.Meaning.TheVariants as meaning
use Rattle.pram_check.specs.Bounded.{Names, IsArray, IsSole, IsAssign, IsStatement, ArePartStatements, AreStatements, with_locals, depth}
use Rattle.pram_check.specs.Bounded.{part_depth, body_depth, target_nodes, size, part_size, body_size}
use Rattle.pram_names.specs.Breaches.{Context, uses, use_breaches, read_count, at, target_cause, element_cause, variable_cause, new_cause}
use Rattle.pram_names.specs.Breaches.{local_breaches, statement_breaches, block_breaches, else_breaches, outside_of, for_context}
use Rattle.pram_names.specs.Breaches.{pardo_context, with_loop}
use Rattle.pram_names.specs.Resolved.{Says, SaysTarget, SaysStatement, SayStatements, SayOther, SaySteps}
use Rattle.pram_names.specs.Resolved as says
use Rattle.pram_names.specs.Scope.{Scope, meaning_of, inner_scope, locals_from}
use Rattle.pram_check.proofs.StmtBreaches.{breaches-Assign, breaches-AssignElement, breaches-Print, breaches-While, breaches-If}
use Rattle.pram_check.proofs.StmtBreaches.{breaches-For, breaches-Pardo}
use Rattle.pram_check.proofs.Depths.{tree_depth, block_depth, else_depth, depth-Assign, depth-AssignElement, depth-Print, depth-While}
use Rattle.pram_check.proofs.Depths.{depth-If, depth-For, depth-Pardo}
use Rattle.pram_check.proofs.BoundedExpressions.{AreThere, IsThere, Within, within, found_there, append_there, few_reads, back_real}
use Rattle.pram_check.proofs.BoundedExpressions.{front_none, back_none}
use Rattle.pram_check.proofs.BoundedSteps.{AreParts, assign_parts, element_parts, while_parts, if_parts, two_parts, sole, pair}
use Rattle.pram_check.proofs.BoundedSteps.{steps_within}

-- ---- statements, as a list

statements_row : (s : Names) {k : _} (ss : Row_of-Statement k) → AreStatements s (items-the_row-Statement k ss) → ArePartStatements s ss
statements_row s end_of-Statement h = tt
statements_row s (more_of-Statement x xs) h = (h.0, statements_row s xs h.1)

depth_row : {k : _} (ss : Row_of-Statement k) → part_depth ss ≡ body_depth (items-the_row-Statement k ss)
depth_row end_of-Statement = refl
depth_row (more_of-Statement x xs) = ap (λ n. max (depth x) n) (depth_row xs)

size_row : {k : _} (ss : Row_of-Statement k) → part_size ss ≡ body_size (items-the_row-Statement k ss)
size_row end_of-Statement = refl
size_row (more_of-Statement x xs) = ap (λ n. size x + n) (size_row xs)

-- ---- the names inside a pardo

-- the names outside pardo
abbrev pub outer : List SharedEntry → ℕ → Names
outer layout uniforms = record { layout = layout; uniforms = uniforms; locals = None }

widen : (layout : List SharedEntry) (uniforms n : ℕ) (m : Meaning) → IsThere (outer layout uniforms) m →
    IsThere (with_locals n (outer layout uniforms)) m
widen layout uniforms n (meaning.Uniform k) h = h
widen layout uniforms n (meaning.Cell k) h = h
widen layout uniforms n (meaning.Array k) h = h
widen layout uniforms n meaning.Index h = absurd h
widen layout uniforms n (meaning.Local k) h = absurd h

widen_all : (layout : List SharedEntry) (uniforms n : ℕ) (scope : Scope) → AreThere (outer layout uniforms) scope →
    AreThere (with_locals n (outer layout uniforms)) scope
widen_all layout uniforms n [] h = tt
widen_all layout uniforms n (b ∷ scope) h = (widen layout uniforms n b.1 h.0, widen_all layout uniforms n scope h.1)

locals_there : (s : Names) (n k : ℕ) (xs : List Name) → k + length xs ≤ n → AreThere (with_locals n s) (locals_from k xs)
locals_there s n k [] h = tt
locals_there s n k (x ∷ xs) h = (omega (arith, h), locals_there s n (k + 1) xs (omega (arith, h)))

local_few : (xs : List Name) → length xs ≤ length (local_tokens xs)
local_few [] = omega arith
local_few (x ∷ xs) = let h = local_few xs in omega (arith, h)

-- ---- statements

pub record StatementWithin (s : Names) (x : Stmt) (y : Statement) : Type 0 where
  pub within : IsStatement s y
  pub deep : depth y ≡ tree_depth x
  pub small : size y ≤ length (statement_tokens x)

pub record StatementsWithin (s : Names) (body : List Stmt) (ys : List Statement) : Type 0 where
  pub within : AreStatements s ys
  pub deep : body_depth ys ≡ block_depth body
  pub small : body_size ys ≤ length (block_tokens body)

record OtherWithin (s : Names) (other : Option (List Stmt)) (ys : List Statement) : Type 0 where
  within : AreStatements s ys
  deep : body_depth ys ≡ else_depth other
  small : body_size ys ≤ length (else_tokens other)

module _ (layout : List SharedEntry) (uniforms : ℕ) (scope : Scope) (there : AreThere (outer layout uniforms) scope) where
  abbrev s : Names
  s = outer layout uniforms

  outer_target : (x : Name) (t : Target) (y : Expression) → SaysTarget scope x t → IsSole s y → IsAssign s t y × (target_nodes t ≡ 1)
  outer_target x _ y (says.uniform k is) h = ((found_there s scope x.text (meaning.Uniform k) there is, h), refl)
  outer_target x _ y (says.cell k is) h = ((found_there s scope x.text (meaning.Cell k) there is, h), refl)

  module _ (loops : List ℕ) where
    abbrev c : Context
    c = outside_of scope loops

    an_assign : (x : Name) (v : Expr) (t : Target) (y : Expression) → SaysTarget scope x t → Says scope v y →
        statement_breaches (st.Assign x v) c ≡ [] →
        AreReal (statement_tokens (st.Assign x v)) → StatementWithin s (st.Assign x v) (statement.Assign x.location t y)
    an_assign x v t y to said none real =
        let p = assign_parts x v real in
        let w = within s scope there v y said p.first in
        let h = outer_target x t y to (sole s scope v y w (back_none (at x.location (target_cause false loops (meaning_of scope x.text))) _
        (sym (breaches-Assign c x v) ∙ none))) in
        record {
          within = h.0;
          deep = sym (depth-Assign x v);
          small = (let q = p.small in let f = w.few in let o = h.1 in omega (arith, q, f, o));
        }

    an_element : (x : Name) (i v : Expr) (k : ℕ) (j y : Expression) → IsArray s k → Says scope i j → Says scope v y →
        statement_breaches (st.AssignElement x i v) c ≡ [] →
        AreReal (statement_tokens (st.AssignElement x i v)) → StatementWithin s (st.AssignElement x i v)
        (statement.Assign x.location (target.Element k j) y)
    an_element x i v k j y array sub said none real =
        let p = element_parts x i v real in
        let a = within s scope there i j sub p.first in
        let b = within s scope there v y said p.second in
        record {
          within = (
            array,
            pair s scope i v j y a b (back_none (at x.location (element_cause (meaning_of scope x.text))) _
                (sym (breaches-AssignElement c x i v) ∙ none)),
          );
          deep = sym (depth-AssignElement x i v);
          small = (let q = p.small in let f = a.few in let g = b.few in omega (arith, q, f, g));
        }

    a_print : (l : Location) (v : Expr) (y : Expression) → Says scope v y → statement_breaches (st.Print l v) c ≡ [] →
        AreReal (statement_tokens (st.Print l v)) →
        StatementWithin s (st.Print l v) (statement.Print l y)
    a_print l v y said none real =
        let shape = sym (append-nil (statement_tokens (st.Print l v))) ∙ spell_print [] l v in
        let p = two_parts (statement_tokens (st.Print l v)) (token.Opening opening.Print l ∷ []) (tokens v) [] []
        (token.Mark mark.Semicolon ∷ []) shape real 1 (omega arith) in
        let w = within s scope there v y said p.first in
        record {
          within = sole s scope v y w (sym (breaches-Print c l v) ∙ none);
          deep = sym (depth-Print l v);
          small = (let q = p.small in let f = w.few in omega (arith, q, f));
        }

  a_while : (l : Location) (test : Expr) (body : List Stmt) (y : Expression) (inside : Vec Statement Global) → Within s scope test y →
      use_breaches scope 0 (uses test) ≡ [] →
      AreParts (statement_tokens (st.While l test body)) 1 (tokens test) (block_tokens body) → StatementsWithin s body inside.items →
      StatementWithin s (st.While l test body) (statement.While l y inside)
  a_while l test body y inside w none p h =
      let row = hidden-the_row-Statement-0 inside in
      let items = items_hidden-the_row-Statement-0 inside in
      let deep = depth_row row ∙ ap body_depth items ∙ h.deep in
      let small = size_row row ∙ ap body_size items in
      record {
        within = (sole s scope test y w none, statements_row s row (subst (AreStatements s) (sym items) h.within));
        deep = ap (λ n. 1 + n) deep ∙ sym (depth-While l test body);
        small = (let q = p.small in let f = w.few in let g = h.small in omega (arith, q, f, g, small));
      }

  an_if : (l : Location) (test : Expr) (body : List Stmt) (other : Option (List Stmt)) (y : Expression)
      (inside others : Vec Statement Global) → Within s scope test y →
      use_breaches scope 0 (uses test) ≡ [] → AreParts (statement_tokens (st.If l test body other)) 1 (tokens test)
      (block_tokens body ++ else_tokens other) →
      StatementsWithin s body inside.items → OtherWithin s other others.items →
      StatementWithin s (st.If l test body other) (statement.If l y inside others)
  an_if l test body other y inside others w none p h behind =
      let row = hidden-the_row-Statement-0 inside in
      let items = items_hidden-the_row-Statement-0 inside in
      let more = hidden-the_row-Statement-0 others in
      let rest = items_hidden-the_row-Statement-0 others in
      let deep = depth_row row ∙ ap body_depth items ∙ h.deep in
      let deeper = depth_row more ∙ ap body_depth rest ∙ behind.deep in
      let small = size_row row ∙ ap body_size items in
      let smaller = size_row more ∙ ap body_size rest in
      record {
        within = (
          sole s scope test y w none,
          statements_row s row (subst (AreStatements s) (sym items) h.within),
          statements_row s more
              (subst (AreStatements s) (sym rest) behind.within),
        );
        deep = (let e = depth-If l test body other in omega (arith, e, deep, deeper));
        small = (
            let q = p.small in
            let f = w.few in
            let g = h.small in
            let i = behind.small in
            let a = length-append (block_tokens body) (else_tokens other) in
            omega (arith, q, f, g, i, a, small, smaller)
            );
      }

  -- the bounds of a `for`, and all behind them
  for_split : (l : Location) (x : Name) (low high : Expr) (body : List Stmt) → AreReal (statement_tokens (st.For l x low high body)) →
      AreParts (statement_tokens (st.For l x low high body)) 2 (tokens low) (tokens high ++ (token.Mark mark.Do ∷ block_tokens body))
  for_split l x low high body real =
      let shape = sym (append-nil (statement_tokens (st.For l x low high body))) ∙ spell_for [] l x low high body in
      let rest = token.Mark mark.Do ∷ block_tokens body in
      let e : tokens high ++ (token.Mark mark.Do ∷ (block_tokens body ++ (token.Mark mark.End ∷ []))) ≡
      (tokens high ++ rest) ++ token.Mark mark.End ∷ [] =
      sym (append_assoc (tokens high) rest (token.Mark mark.End ∷ [])) in
      two_parts (statement_tokens (st.For l x low high body)) (token.Opening opening.For l ∷ token.Name x ∷ token.Mark mark.Becomes ∷ [])
      (tokens low) (token.Mark mark.To ∷ []) (tokens high ++ rest) (token.Mark mark.End ∷ [])
      (shape ∙ ap (λ ts. token.Opening opening.For l ∷ (token.Name x ∷
      (token.Mark mark.Becomes ∷ (tokens low ++ (token.Mark mark.To ∷ ts))))) e) real 2 (omega arith)

  a_for : (l : Location) (x : Name) (low high : Expr) (body : List Stmt) (k : ℕ) (a b : Expression) (inside : Vec Statement Global) →
      k < uniforms → Within s scope low a → Within s scope high b →
      use_breaches scope 0 (uses low ++ uses high) ≡ [] → AreParts (statement_tokens (st.For l x low high body)) 2 (tokens low)
      (tokens high ++ (token.Mark mark.Do ∷ block_tokens body)) →
      StatementsWithin s body inside.items → StatementWithin s (st.For l x low high body) (statement.For l k a b inside)
  a_for l x low high body k a b inside below v w none p h =
      let row = hidden-the_row-Statement-0 inside in
      let items = items_hidden-the_row-Statement-0 inside in
      let deep = depth_row row ∙ ap body_depth items ∙ h.deep in
      let small = size_row row ∙ ap body_size items in
      record {
        within = (below, pair s scope low high a b v w none, statements_row s row (subst (AreStatements s) (sym items) h.within));
        deep = ap (λ n. 1 + n) deep ∙ sym (depth-For l x low high body);
        small = (
            let q = p.small in
            let f = v.few in
            let g = w.few in
            let i = h.small in
            let t = length-append (tokens high) (token.Mark mark.Do ∷ block_tokens body) in
            omega (arith, q, f, g, i, t, small)
            );
      }

  -- the bounds of a pardo, and all behind them
  pardo_split : (l : Location) (low : Expr) (x : Name) (high : Expr) (locals : List Name) (body : List Stmt) →
      AreReal (statement_tokens (st.Pardo l low x high locals body)) →
      AreParts (statement_tokens (st.Pardo l low x high locals body)) 2 (tokens low)
      (tokens high ++ (token.Mark mark.Pardo ∷ (local_tokens locals ++ block_tokens body)))
  pardo_split l low x high locals body real =
      let shape = sym (append-nil (statement_tokens (st.Pardo l low x high locals body))) ∙ spell_pardo [] l low x high locals body in
      let end = token.Mark mark.End ∷ [] in
      let inner = local_tokens locals ++ block_tokens body in
      let rest = token.Mark mark.Pardo ∷ inner in
      let e : tokens high ++ (token.Mark mark.Pardo ∷ (local_tokens locals ++ (block_tokens body ++ end))) ≡ (tokens high ++ rest) ++ end =
      ap (λ ts. tokens high ++ (token.Mark mark.Pardo ∷ ts)) (sym (append_assoc (local_tokens locals) (block_tokens body) end))
      ∙ sym (append_assoc (tokens high) rest end) in
      two_parts (statement_tokens (st.Pardo l low x high locals body)) (token.Opening opening.For l ∷ []) (tokens low)
      (token.Binary op.AtMost ∷ token.Name x ∷ token.Binary op.AtMost ∷ []) (tokens high ++ rest) end
      (shape ∙ ap (λ ts. token.Opening opening.For l ∷ (tokens low ++
      (token.Binary op.AtMost ∷ (token.Name x ∷ (token.Binary op.AtMost ∷ ts))))) e) real 2 (omega arith)

  -- where nothing is wrong with a pardo
  record NothingWrong (low : Expr) (x : Name) (high : Expr) (locals : List Name) (body : List Stmt) : Type 0 where
    bound : use_breaches scope 0 (uses low) ≡ []
    other : use_breaches scope (read_count scope (uses low)) (uses high) ≡ []
    inside : block_breaches body (pardo_context (outside_of scope []) x locals) ≡ []

  nothing_wrong : (loops : List ℕ) (l : Location) (low : Expr) (x : Name) (high : Expr) (locals : List Name) (body : List Stmt) →
      statement_breaches (st.Pardo l low x high locals body) (outside_of scope loops) ≡ [] → NothingWrong low x high locals body
  nothing_wrong loops l low x high locals body none =
      let h = sym (breaches-Pardo (outside_of scope loops) l low x high locals body) ∙ none in
      let a = back_none (use_breaches scope 0 (uses low)) _ h in
      let b = back_none (at x.location (new_cause scope x.text)) _ a in
      let d = back_none (use_breaches scope (read_count scope (uses low)) (uses high)) _ b in
      record {
        bound = front_none (use_breaches scope 0 (uses low)) _ h;
        other = front_none (use_breaches scope (read_count scope (uses low)) (uses high)) _ b;
        inside = back_none (local_breaches (inner_scope scope x []) 0 locals) _ d;
      }

  a_pardo : (l : Location) (low : Expr) (x : Name) (high : Expr) (locals : List Name) (body : List Stmt) (a b : Expression)
      (steps : Vec Step Global) →
      Says scope low a → Says scope high b → SaySteps (inner_scope scope x locals) body steps.items → NothingWrong low x high locals body →
      AreParts (statement_tokens (st.Pardo l low x high locals body)) 2 (tokens low)
      (tokens high ++ (token.Mark mark.Pardo ∷ (local_tokens locals ++ block_tokens body))) →
      StatementWithin s (st.Pardo l low x high locals body) (statement.Pardo l a b (length locals) steps)
  a_pardo l low x high locals body a b steps first second inside none p =
      let n = length locals in
      let rest = token.Mark mark.Pardo ∷ (local_tokens locals ++ block_tokens body) in
      let real = back_real (tokens high) rest p.second in
      let v = within s scope there low a first p.first in
      let w = within s scope there high b second (front_real (tokens high) rest p.second) in
      let within_inner : AreThere (with_locals n s) (inner_scope scope x locals) =
      append_there (with_locals n s) scope _ (widen_all layout uniforms n scope there) (tt, locals_there s n 0 locals (omega arith)) in
      let h = steps_within (with_locals n s) (inner_scope scope x locals) within_inner body steps.items inside none.inside
      (back_real (local_tokens locals) (block_tokens body) real.1) in
      record {
        within = (
          (
            v.named,
            w.named,
            (
                let f = few_reads scope 0 (uses low) (omega arith) none.bound in
                let g = few_reads scope (read_count scope (uses low)) (uses high) (omega (arith, f)) none.other in
                let q = v.read in
                let r = w.read in
                omega (arith, g, q, r)
                ),
          ),
          h.within,
        );
        deep = ap (λ n. 1 + n) h.deep ∙ sym (depth-Pardo l low x high locals body);
        small = (
            let q = p.small in
            let f = v.few in
            let g = w.few in
            let i = h.small in
            let j = local_few locals in
            let t = length-append (tokens high) rest in
            let u = length-append (local_tokens locals) (block_tokens body) in
            omega (arith, q, f, g, i, j, t, u)
            );
      }

  mutual
    statement_within : (loops : List ℕ) (x : Stmt) (y : Statement) → SaysStatement scope x y →
        statement_breaches x (outside_of scope loops) ≡ [] → AreReal (statement_tokens x) → StatementWithin s x y
    statement_within loops _ _ (says.assign x v t y to said) none real = an_assign loops x v t y to said none real
    statement_within loops _ _ (says.assign_element x i v k j y is sub said) none real =
        an_element loops x i v k j y (found_there s scope x.text (meaning.Array k) there is) sub said none real
    statement_within loops _ _ (says.print l v y said) none real = a_print loops l v y said none real
    statement_within loops _ _ (says.while l test body y inside said h) none real =
        let p = while_parts l test body real in
        let b = sym (breaches-While (outside_of scope loops) l test body) ∙ none in
        let us = use_breaches scope 0 (uses test) in
        a_while l test body y inside (within s scope there test y said p.first) (front_none us _ b) p
        (statements_within loops body inside.items h (back_none us _ b) p.second)
    statement_within loops _ _ (says.if_else l test body other y inside others said h behind) none real =
        let c = outside_of scope loops in
        let p = if_parts l test body other real in
        let b = sym (breaches-If c l test body other) ∙ none in
        let us = use_breaches scope 0 (uses test) in
        let more = back_none us (block_breaches body c ++ else_breaches other c) b in
        an_if l test body other y inside others (within s scope there test y said p.first) (front_none us _ b) p
        (statements_within loops body inside.items h (front_none (block_breaches body c) (else_breaches other c) more)
        (front_real (block_tokens body) (else_tokens other) p.second))
        (other_within loops other others.items behind (back_none (block_breaches body c) (else_breaches other c) more)
        (back_real (block_tokens body) (else_tokens other) p.second))
    statement_within loops _ _ (says.for_to l x low high body k a b inside is first second h) none real =
        let c = outside_of scope loops in
        let p = for_split l x low high body real in
        let us = use_breaches scope 0 (uses low ++ uses high) in
        let f = back_none (at x.location (variable_cause loops (meaning_of scope x.text))) _
        (sym (breaches-For c l x low high body) ∙ none) in
        let rest = token.Mark mark.Do ∷ block_tokens body in
        a_for l x low high body k a b inside (found_there s scope x.text (meaning.Uniform k) there is)
        (within s scope there low a first p.first)
        (within s scope there high b second (front_real (tokens high) rest p.second))
        (front_none us (block_breaches body (for_context c x)) f) p
        (statements_within (with_loop loops (meaning_of scope x.text)) body inside.items h
        (back_none us (block_breaches body (for_context c x)) f) (back_real (tokens high) rest p.second).1)
    statement_within loops _ _ (says.pardo l low x high locals body a b steps first second h) none real =
        a_pardo l low x high locals body a b steps first second h (nothing_wrong loops l low x high locals body none)
        (pardo_split l low x high locals body real)

    other_within : (loops : List ℕ) (other : Option (List Stmt)) (ys : List Statement) → SayOther scope other ys →
        else_breaches other (outside_of scope loops) ≡ [] → AreReal (else_tokens other) → OtherWithin s other ys
    other_within loops _ _ says.missing none real = record { within = tt; deep = refl; small = omega arith }
    other_within loops _ _ (says.present other others inside) none real =
        let w = statements_within loops other others inside none real.1 in
        record { within = w.within; deep = w.deep; small = (let q = w.small in omega (arith, q)) }

    pub statements_within : (loops : List ℕ) (body : List Stmt) (ys : List Statement) → SayStatements scope body ys →
        block_breaches body (outside_of scope loops) ≡ [] → AreReal (block_tokens body) → StatementsWithin s body ys
    statements_within loops _ _ says.none none real = record { within = tt; deep = refl; small = omega arith }
    statements_within loops _ _ (says.more x rest y others here behind) none real =
        let c = outside_of scope loops in
        let w = statement_within loops x y here (front_none (statement_breaches x c) (block_breaches rest c) none)
        (front_real (statement_tokens x) (block_tokens rest) real) in
        let v = statements_within loops rest others behind (back_none (statement_breaches x c) (block_breaches rest c) none)
        (back_real (statement_tokens x) (block_tokens rest) real) in
        let a = length-append (statement_tokens x) (block_tokens rest) in
        record {
          within = (w.within, v.within);
          deep = (let e = w.deep in let f = v.deep in omega (arith, e, f));
          small = (let q = w.small in let r = v.small in omega (arith, q, r, a));
        }
