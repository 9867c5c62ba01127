-- What is wrong with a statement, and what is told of it.
use Rattle.std.proofs.Common.{ℕ, ◌+◌, Bool, true, false, List, [], ◌∷◌, ◌++◌, map, Option, Some, None, subst, sym, append_assoc}
use Rattle.pram_tokens.specs.declared.token.Location.{Location}
use Rattle.pram_tokens.specs.declared.token.Mark.TheVariants as mark
use Rattle.pram_tokens.specs.declared.token.Binary.TheVariants as op
use Rattle.pram_tokens.specs.declared.token.Name.{Name}
use Rattle.pram_tokens.specs.declared.token.Opening.{Opening}
use Rattle.pram_tokens.specs.declared.token.Opening.TheVariants as opening
use Rattle.pram_tokens.specs.declared.token.Token.{Token}
use Rattle.pram_tokens.specs.declared.token.Token.TheVariants as token
use Rattle.pram_trees.specs.declared.tree.Expr.{Expr}
use Rattle.pram_trees.specs.declared.tree.Stmt.{Stmt, roll-Stmt, map-Stmt}
use Rattle.pram_trees.specs.declared.tree.Stmt.TheOpen.{Stmt-F}
use Rattle.pram_trees.specs.declared.tree.Stmt.TheFolds.{ind-Stmt, fold-roll-Stmt}
use Rattle.pram_trees.specs.Grammar.{tokens}
use Rattle.pram_trees.specs.Blocks.{statement_tokens, statement_step, joined_all, local_tokens}
use Rattle.pram_names.specs.declared.fault.Breach.{Breach}
use Rattle.pram_names.specs.declared.fault.Cause.{Cause}
use Rattle.pram_names.specs.declared.fault.Cause.TheVariants.{WrongKind}
use Rattle.pram_names.specs.Scope.{Scope, meaning_of, inner_scope, locals_from}
use Rattle.pram_names.specs.Breaches.{Context, Judged, at, uses, use_breaches, read_count, variable_cause, new_cause, local_breaches}
use Rattle.pram_names.specs.Breaches.{judged_all, outside_of, inside_of, with_loop, node_breaches, statement_breaches}
use Rattle.pram_check.specs.Faults.{use_faults, local_faults, keyword_faults, variable_causes, new_causes, all_at, node_faults}
use Rattle.pram_check.specs.Faults.{statement_faults}
use Rattle.pram_check.proofs.Least.{ToldIn, IsLowest, told_at, none_at, join, front, behind, nothing, hidden}
use Rattle.pram_check.proofs.Lowest.{target_lowest_inside, target_lowest_outside, element_lowest, variable_lowest, new_lowest}
use Rattle.pram_check.proofs.Lowest.{where_it_holds}
use Rattle.pram_check.proofs.UseFaults.{told_expression, told_two}

-- a statement as the checker sees it: inside pardo it knows of no loops around it
abbrev pub seen : Bool → Scope → List ℕ → Context
seen true scope loops = inside_of scope
seen false scope loops = outside_of scope loops

-- the same as it stands
abbrev pub stands : Bool → Scope → List ℕ → Context
stands inside scope loops = record { scope = scope; loops = loops; inside = inside }

module _ (end : ℕ) where
  abbrev pub IsTold : Stmt → Type 0
  IsTold x = (inside : Bool) (scope : Scope) (loops : List ℕ) →
      ToldIn end (statement_breaches x (seen inside scope loops)) (statement_faults x (stands inside scope loops)) (statement_tokens x)

  abbrev Held : Type 0
  Held = (x : Stmt) × IsTold x

  abbrev stmts : Stmt-F Held → Stmt-F Stmt
  stmts = map-Stmt Held Stmt (λ x. x.0)

  -- a name of which something is told
  pub named : (x : Name) (k : Option Cause) (cs : List Cause) → IsLowest k cs → ToldIn end (at x.location k) (all_at x.location cs)
      (token.Name x ∷ [])
  named x k cs low = record { told = λ lo hi h. told_at end x.location k cs lo hi low h.0 h.1; none = none_at x.location k cs low }

  -- a keyword that has no place there
  misplaced : (o : Opening) (l : Location) → ToldIn end (at l (Some WrongKind)) (keyword_faults true l) (token.Opening o l ∷ [])
  misplaced o l = record {
    told = λ lo hi h. told_at end l (Some WrongKind) (WrongKind ∷ []) lo hi (where_it_holds true WrongKind) h.0 h.1;
    none = none_at l (Some WrongKind) (WrongKind ∷ []) (where_it_holds true WrongKind);
  }

  again : {bs fs : List Breach} (ts us vs : List Token) → ToldIn end bs fs ((ts ++ us) ++ vs) → ToldIn end bs fs (ts ++ (us ++ vs))
  again {bs} {fs} ts us vs = subst (ToldIn end bs fs) (append_assoc ts us vs)

  all_in : (ys : List Held) (inside : Bool) (scope : Scope) (loops : List ℕ) →
      ToldIn end (judged_all (map statement_breaches (map (λ (x : Held). x.0) ys)) (seen inside scope loops))
      (judged_all (map statement_faults (map (λ (x : Held). x.0) ys)) (stands inside scope loops))
      (joined_all (map statement_tokens (map (λ (x : Held). x.0) ys)))
  all_in [] inside scope loops = nothing end []
  all_in (y ∷ ys) inside scope loops = join end (y.1 inside scope loops) (all_in ys inside scope loops)

  locals_in : (scope : Scope) (k : ℕ) (xs : List Name) → ToldIn end (local_breaches scope k xs) (local_faults scope k xs) (local_tokens xs)
  locals_in scope k [] = nothing end []
  locals_in scope k (x ∷ xs) =
      behind end (token.Mark mark.Local ∷ [])
      (join end (named x _ _ (new_lowest scope x.text)) (behind end (token.Mark mark.Semicolon
      ∷ []) (locals_in (scope ++ locals_from k (x ∷ [])) (k + 1) xs)))

  -- the statements in a block, with the word behind them
  block_in : (ys : List Held) (inside : Bool) (scope : Scope) (loops : List ℕ) →
      ToldIn end (judged_all (map statement_breaches (map (λ (x : Held). x.0) ys)) (seen inside scope loops))
      (judged_all (map statement_faults (map (λ (x : Held). x.0) ys)) (stands inside scope loops))
      (joined_all (map statement_tokens (map (λ (x : Held). x.0) ys)) ++ token.Mark mark.End ∷ [])
  block_in ys inside scope loops = front end (token.Mark mark.End ∷ []) (all_in ys inside scope loops)

  -- `x := v`, `x[i] := v`
  value_in : (scope : Scope) (v : Expr) → ToldIn end (use_breaches scope 0 (uses v)) (use_faults scope 0 (uses v))
      (tokens v ++ token.Mark mark.Semicolon ∷ [])
  value_in scope v = front end (token.Mark mark.Semicolon ∷ []) (told_expression end scope 0 v)

  pair_in : (scope : Scope) (i v : Expr) → ToldIn end (use_breaches scope 0 (uses i ++ uses v)) (use_faults scope 0 (uses i ++ uses v))
      (tokens i ++ (token.Mark mark.CloseBracket ∷ (token.Mark mark.Becomes ∷ (tokens v ++ token.Mark mark.Semicolon ∷ []))))
  pair_in scope i v =
      again (tokens i) (token.Mark mark.CloseBracket ∷ (token.Mark mark.Becomes ∷ tokens v)) (token.Mark mark.Semicolon ∷ [])
      (front end (token.Mark mark.Semicolon ∷ []) (told_two end scope i v (token.Mark mark.CloseBracket ∷ (token.Mark mark.Becomes ∷ []))))

  -- the part of a `for` behind its keyword
  for_in : (x : Name) (low high : Expr) (body : List Held) (inside : Bool) (scope : Scope) (loops : List ℕ) →
      let m = meaning_of scope x.text in
      ToldIn end
      (at x.location (variable_cause loops m) ++ (use_breaches scope 0 (uses low ++ uses high)
      ++ judged_all (map statement_breaches (map (λ (x : Held). x.0) body)) (seen inside scope (with_loop loops m))))
      (all_at x.location (variable_causes loops m) ++ (use_faults scope 0 (uses low ++ uses high)
      ++ judged_all (map statement_faults (map (λ (x : Held). x.0) body)) (stands inside scope (with_loop loops m))))
      (token.Name x ∷ (token.Mark mark.Becomes ∷ (tokens low ++ (token.Mark mark.To ∷ (tokens high
      ++ (token.Mark mark.Do ∷ (joined_all (map statement_tokens (map (λ (x : Held). x.0) body)) ++ token.Mark mark.End ∷ [])))))))
  for_in x low high body inside scope loops =
      join end (named x _ _ (variable_lowest loops (meaning_of scope x.text)))
      (behind end (token.Mark mark.Becomes ∷ [])
      (again (tokens low) (token.Mark mark.To ∷ tokens high) _
      (join end (told_two end scope low high (token.Mark mark.To ∷ []))
      (behind end (token.Mark mark.Do ∷ []) (block_in body inside scope (with_loop loops (meaning_of scope x.text)))))))

  -- the part of a pardo behind its keyword
  pardo_in : (low : Expr) (x : Name) (high : Expr) (locals : List Name) (body : List Held) (scope : Scope) (loops : List ℕ) →
      ToldIn end
      (use_breaches scope 0 (uses low)
      ++ (at x.location (new_cause scope x.text) ++ (use_breaches scope (read_count scope (uses low)) (uses high)
      ++ (local_breaches (inner_scope scope x []) 0 locals
      ++ judged_all (map statement_breaches (map (λ (x : Held). x.0) body)) (inside_of (inner_scope scope x locals))))))
      (use_faults scope 0 (uses low)
      ++ (all_at x.location (new_causes scope x.text) ++ (use_faults scope (read_count scope (uses low)) (uses high)
      ++ (local_faults (inner_scope scope x []) 0 locals
      ++ judged_all (map statement_faults (map (λ (x : Held). x.0) body)) (stands true (inner_scope scope x locals) loops)))))
      (tokens low ++ (token.Binary op.AtMost
      ∷ (token.Name x ∷ (token.Binary op.AtMost ∷ (tokens high ++ (token.Mark mark.Pardo ∷ (local_tokens locals
      ++ (joined_all (map statement_tokens (map (λ (x : Held). x.0) body)) ++ token.Mark mark.End ∷ []))))))))
  pardo_in low x high locals body scope loops =
      join end (told_expression end scope 0 low)
      (behind end (token.Binary op.AtMost ∷ [])
      (join end (named x _ _ (new_lowest scope x.text))
      (behind end (token.Binary op.AtMost ∷ [])
      (join end (told_expression end scope (read_count scope (uses low)) high)
      (behind end (token.Mark mark.Pardo ∷ [])
      (join end (locals_in (inner_scope scope x []) 0 locals) (block_in body true (inner_scope scope x locals) loops)))))))

  -- the parts of `while` and `if` behind the keyword
  while_in : (e : Expr) (body : List Held) (inside : Bool) (scope : Scope) (loops : List ℕ) →
      ToldIn end (use_breaches scope 0 (uses e)
      ++ judged_all (map statement_breaches (map (λ (x : Held). x.0) body)) (seen inside scope loops))
      (use_faults scope 0 (uses e) ++ judged_all (map statement_faults (map (λ (x : Held). x.0) body)) (stands inside scope loops))
      (tokens e ++ (token.Mark mark.Do ∷ (joined_all (map statement_tokens (map (λ (x : Held). x.0) body)) ++ token.Mark mark.End ∷ [])))
  while_in e body inside scope loops =
      join end (told_expression end scope 0 e) (behind end (token.Mark mark.Do ∷ []) (block_in body inside scope loops))

  if_in : (e : Expr) (body : List Held) (inside : Bool) (scope : Scope) (loops : List ℕ) →
      ToldIn end (use_breaches scope 0 (uses e)
      ++ (judged_all (map statement_breaches (map (λ (x : Held). x.0) body)) (seen inside scope loops) ++ []))
      (use_faults scope 0 (uses e) ++ (judged_all (map statement_faults (map (λ (x : Held). x.0) body)) (stands inside scope loops) ++ []))
      (tokens e ++ (token.Mark mark.Then ∷ (joined_all (map statement_tokens (map (λ (x : Held). x.0) body)) ++ token.Mark mark.End ∷ [])))
  if_in e body inside scope loops =
      join end (told_expression end scope 0 e)
      (behind end (token.Mark mark.Then ∷ []) (join end (all_in body inside scope loops) (nothing end (token.Mark mark.End ∷ []))))

  if_else_in : (e : Expr) (body other : List Held) (inside : Bool) (scope : Scope) (loops : List ℕ) →
      ToldIn end
      (use_breaches scope 0 (uses e) ++ (judged_all (map statement_breaches (map (λ (x : Held). x.0) body)) (seen inside scope loops)
      ++ judged_all (map statement_breaches (map (λ (x : Held). x.0) other)) (seen inside scope loops)))
      (use_faults scope 0 (uses e) ++ (judged_all (map statement_faults (map (λ (x : Held). x.0) body)) (stands inside scope loops)
      ++ judged_all (map statement_faults (map (λ (x : Held). x.0) other)) (stands inside scope loops)))
      (tokens e ++ (token.Mark mark.Then ∷ (joined_all (map statement_tokens (map (λ (x : Held). x.0) body))
      ++ (token.Mark mark.Else ∷ (joined_all (map statement_tokens (map (λ (x : Held). x.0) other)) ++ token.Mark mark.End ∷ [])))))
  if_else_in e body other inside scope loops =
      join end (told_expression end scope 0 e)
      (behind end (token.Mark mark.Then ∷ [])
      (join end (all_in body inside scope loops) (behind end (token.Mark mark.Else ∷ []) (block_in other inside scope loops))))

  layer : (y : Stmt-F Held) (inside : Bool) (scope : Scope) (loops : List ℕ) →
      ToldIn end (node_breaches (map-Stmt Stmt Judged statement_breaches (stmts y)) (seen inside scope loops))
      (node_faults (map-Stmt Stmt Judged statement_faults (stmts y)) (stands inside scope loops))
      (statement_step (map-Stmt Stmt (List Token) statement_tokens (stmts y)))
  layer (Stmt-F.Assign x v) true scope loops =
      join end (named x _ _ (target_lowest_inside [] loops (meaning_of scope x.text))) (behind end (token.Mark mark.Becomes
      ∷ []) (value_in scope v))
  layer (Stmt-F.Assign x v) false scope loops =
      join end (named x _ _ (target_lowest_outside loops (meaning_of scope x.text))) (behind end (token.Mark mark.Becomes
      ∷ []) (value_in scope v))
  layer (Stmt-F.AssignElement x i v) true scope loops =
      join end (named x _ _ (element_lowest loops (meaning_of scope x.text))) (behind end (token.Mark mark.OpenBracket
      ∷ []) (pair_in scope i v))
  layer (Stmt-F.AssignElement x i v) false scope loops =
      join end (named x _ _ (element_lowest loops (meaning_of scope x.text))) (behind end (token.Mark mark.OpenBracket
      ∷ []) (pair_in scope i v))
  layer (Stmt-F.Print l v) true scope loops = hidden end (misplaced opening.Print l) (value_in scope v)
  layer (Stmt-F.Print l v) false scope loops = behind end (token.Opening opening.Print l ∷ []) (value_in scope v)
  layer (Stmt-F.While l e body) true scope loops = behind end (token.Opening opening.While l ∷ []) (while_in e body true scope loops)
  layer (Stmt-F.While l e body) false scope loops = behind end (token.Opening opening.While l ∷ []) (while_in e body false scope loops)
  layer (Stmt-F.If l e body None) true scope loops = behind end (token.Opening opening.If l ∷ []) (if_in e body true scope loops)
  layer (Stmt-F.If l e body None) false scope loops = behind end (token.Opening opening.If l ∷ []) (if_in e body false scope loops)
  layer (Stmt-F.If l e body (Some other)) true scope loops =
      behind end (token.Opening opening.If l ∷ []) (if_else_in e body other true scope loops)
  layer (Stmt-F.If l e body (Some other)) false scope loops =
      behind end (token.Opening opening.If l ∷ []) (if_else_in e body other false scope loops)
  layer (Stmt-F.For l x low high body) true scope loops = hidden end (misplaced opening.For l) (for_in x low high body true scope loops)
  layer (Stmt-F.For l x low high body) false scope loops =
      behind end (token.Opening opening.For l ∷ []) (for_in x low high body false scope loops)
  layer (Stmt-F.Pardo l low x high locals body) true scope loops =
      hidden end (misplaced opening.For l) (pardo_in low x high locals body scope loops)
  layer (Stmt-F.Pardo l low x high locals body) false scope loops =
      behind end (token.Opening opening.For l ∷ []) (pardo_in low x high locals body scope loops)

  rolled : (y : Stmt-F Held) → IsTold (roll-Stmt (stmts y))
  unfolding statement_breaches statement_faults statement_tokens
  rolled y inside scope loops =
      let x = stmts y in
      subst (λ f. ToldIn end (f (seen inside scope loops)) (statement_faults (roll-Stmt x) (stands inside scope loops))
      (statement_tokens (roll-Stmt x)))
      (sym (fold-roll-Stmt Judged node_breaches x))
      (subst (λ f. ToldIn end (node_breaches (map-Stmt Stmt Judged statement_breaches x) (seen inside scope loops))
      (f (stands inside scope loops)) (statement_tokens (roll-Stmt x)))
      (sym (fold-roll-Stmt Judged node_faults x))
      (subst (ToldIn end (node_breaches (map-Stmt Stmt Judged statement_breaches x) (seen inside scope loops))
      (node_faults (map-Stmt Stmt Judged statement_faults x) (stands inside scope loops)))
      (sym (fold-roll-Stmt (List Token) statement_step x)) (layer y inside scope loops)))

  -- the first breach of a statement is the least of its faults
  pub told_statement : (x : Stmt) → IsTold x
  told_statement = ind-Stmt IsTold (λ x y is. subst (λ z. IsTold (roll-Stmt z)) is (rolled y))
