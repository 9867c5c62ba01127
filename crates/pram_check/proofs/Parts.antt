-- How the first breach of a statement follows from those of its parts.
use Rattle.std.proofs.Common.{◌≡◌, List, [], ◌∷◌, ◌++◌, Option, None, refl, sym, ap, ◌∙◌, append_assoc, ℕ, ◌+◌, ◌<◌, length, take, drop}
use Rattle.std.proofs.Common.{get_or}
use Rattle.std.proofs.lemmas.List.{append-nil, take-append-drop, take_more}
use Rattle.pram_tokens.specs.declared.token.Location.{Location}
use Rattle.pram_tokens.specs.declared.token.Name.{Name}
use Rattle.pram_trees.specs.declared.tree.Expr.{Expr}
use Rattle.pram_trees.specs.declared.tree.Stmt.{Stmt}
use Rattle.pram_trees.specs.declared.tree.Stmt.TheVariants as s
use Rattle.pram_names.specs.declared.fault.Breach.{Breach}
use Rattle.pram_names.specs.Scope.{meaning_of, inner_scope}
use Rattle.pram_names.specs.Breaches.{Context, at, uses, use_breaches, read_count, target_cause, element_cause, variable_cause, new_cause}
use Rattle.pram_names.specs.Breaches.{local_breaches, outside_only, for_context, pardo_context, statement_breaches, block_breaches}
use Rattle.pram_names.specs.Breaches.{else_breaches, first}
use Rattle.pram_names.proofs.Judging.{Leads, first_front, first_behind}
use Rattle.pram_check.proofs.StmtBreaches.{breaches-Assign, breaches-AssignElement, breaches-Print, breaches-While, breaches-If}
use Rattle.pram_check.proofs.StmtBreaches.{breaches-For, breaches-Pardo}

module _ (c : Context) (x : Stmt) where
  parts_of : (y : Stmt) (bs : List Breach) → x ≡ y → statement_breaches y c ≡ bs → statement_breaches x c ≡ bs
  parts_of y bs is h = ap (λ z. statement_breaches z c) is ∙ h

  pub assign_parts : (t : Name) (v : Expr) → x ≡ s.Assign t v →
      statement_breaches x c ≡ at t.location (target_cause c.inside c.loops (meaning_of c.scope t.text)) ++ use_breaches c.scope 0 (uses v)
  assign_parts t v is = parts_of (s.Assign t v) _ is (breaches-Assign c t v)

  pub element_parts : (t : Name) (i v : Expr) → x ≡ s.AssignElement t i v →
      statement_breaches x c ≡ at t.location (element_cause (meaning_of c.scope t.text)) ++ use_breaches c.scope 0 (uses i ++ uses v)
  element_parts t i v is = parts_of (s.AssignElement t i v) _ is (breaches-AssignElement c t i v)

  pub print_parts : (l : Location) (v : Expr) → x ≡ s.Print l v →
      statement_breaches x c ≡ outside_only c.inside l (use_breaches c.scope 0 (uses v))
  print_parts l v is = parts_of (s.Print l v) _ is (breaches-Print c l v)

  -- the body is given by a list that is equal to it
  pub while_parts : (l : Location) (v : Expr) (body given : List Stmt) → x ≡ s.While l v body → given ≡ body →
      statement_breaches x c ≡ use_breaches c.scope 0 (uses v) ++ block_breaches given c
  while_parts l v body given is same = parts_of (s.While l v body) _ is (breaches-While c l v body)
      ∙ ap (λ b. use_breaches c.scope 0 (uses v) ++ block_breaches b c) (sym same)

  pub if_parts : (l : Location) (v : Expr) (body given : List Stmt) (other else_given : Option (List Stmt)) → x ≡ s.If l v body other →
      given ≡ body → else_given ≡ other →
      statement_breaches x c ≡ use_breaches c.scope 0 (uses v) ++ (block_breaches given c ++ else_breaches else_given c)
  if_parts l v body given other else_given is same also =
      parts_of (s.If l v body other) _ is (breaches-If c l v body other)
      ∙ (ap (λ b. use_breaches c.scope 0 (uses v) ++ (block_breaches b c ++ else_breaches other c)) (sym same)
      ∙ ap (λ o. use_breaches c.scope 0 (uses v) ++ (block_breaches given c ++ else_breaches o c)) (sym also))

  pub for_parts : (l : Location) (t : Name) (low high : Expr) (body given : List Stmt) → x ≡ s.For l t low high body → given ≡ body →
      statement_breaches x c ≡ outside_only c.inside l
      (at t.location (variable_cause c.loops (meaning_of c.scope t.text))
      ++ (use_breaches c.scope 0 (uses low ++ uses high) ++ block_breaches given (for_context c t)))
  for_parts l t low high body given is same =
      parts_of (s.For l t low high body) _ is (breaches-For c l t low high body)
      ∙ ap (λ b. outside_only c.inside l (at t.location (variable_cause c.loops (meaning_of c.scope t.text))
      ++ (use_breaches c.scope 0 (uses low ++ uses high) ++ block_breaches b (for_context c t)))) (sym same)

  pub pardo_parts : (l : Location) (low : Expr) (t : Name) (high : Expr) (locals names : List Name) (body given : List Stmt) →
      x ≡ s.Pardo l low t high locals body → names ≡ locals → given ≡ body → statement_breaches x c ≡ outside_only c.inside l
      (use_breaches c.scope 0 (uses low)
      ++ (at t.location (new_cause c.scope t.text) ++ (use_breaches c.scope (read_count c.scope (uses low)) (uses high)
      ++ (local_breaches (inner_scope c.scope t []) 0 names ++ block_breaches given (pardo_context c t names)))))
  pardo_parts l low t high locals names body given is listed same =
      parts_of (s.Pardo l low t high locals body) _ is (breaches-Pardo c l low t high locals body)
      ∙ (ap (λ b. outside_only c.inside l (use_breaches c.scope 0 (uses low)
      ++ (at t.location (new_cause c.scope t.text) ++ (use_breaches c.scope (read_count c.scope (uses low)) (uses high)
      ++ (local_breaches (inner_scope c.scope t []) 0 locals ++ block_breaches b (pardo_context c t locals)))))) (sym same)
      ∙ ap (λ n. outside_only c.inside l (use_breaches c.scope 0 (uses low)
      ++ (at t.location (new_cause c.scope t.text) ++ (use_breaches c.scope (read_count c.scope (uses low)) (uses high)
      ++ (local_breaches (inner_scope c.scope t []) 0 n ++ block_breaches given (pardo_context c t n)))))) (sym listed))

-- a block so far, and one statement more
pub block_append : (xs ys : List Stmt) (c : Context) → block_breaches (xs ++ ys) c ≡ block_breaches xs c ++ block_breaches ys c
block_append [] ys c = refl
block_append (x ∷ xs) ys c = ap (λ l. statement_breaches x c ++ l) (block_append xs ys c)
    ∙ sym (append_assoc (statement_breaches x c) (block_breaches xs c) (block_breaches ys c))

pub block_more : (xs : List Stmt) (i : ℕ) (d : Stmt) (c : Context) → i < length xs → d ≡ get_or xs i d →
    block_breaches (take (i + 1) xs) c ≡ block_breaches (take i xs) c ++ statement_breaches d c
block_more xs i d c below is =
    let grown : take (i + 1) xs ≡ take i xs ++ d ∷ [] = take_more xs i d below ∙ ap (λ y. take i xs ++ y ∷ []) (sym is) in
    ap (λ l. block_breaches l c) grown
    ∙ (block_append (take i xs) (d ∷ []) c ∙ ap (λ l. block_breaches (take i xs) c ++ l) (append-nil (statement_breaches d c)))

pub block_at : (xs : List Stmt) (i : ℕ) (d : Stmt) (c : Context) → i < length xs → d ≡ get_or xs i d →
    block_breaches xs c ≡ block_breaches (take i xs) c ++ (statement_breaches d c ++ block_breaches (drop (i + 1) xs) c)
block_at xs i d c below is =
    ap (λ l. block_breaches l c) (sym (take-append-drop (i + 1) xs))
    ∙ (block_append (take (i + 1) xs) (drop (i + 1) xs) c
    ∙ (ap (λ l. l ++ block_breaches (drop (i + 1) xs) c) (block_more xs i d c below is)
    ∙ append_assoc (block_breaches (take i xs) c) (statement_breaches d c) (block_breaches (drop (i + 1) xs) c)))
