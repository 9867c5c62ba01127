-- What is wrong with each form of statement.
use Rattle.std.proofs.Common.{◌≡◌, List, [], ◌∷◌, ◌++◌, Option, Some, None, refl, sym, ap, ◌∙◌}
use mathlib.Core.List.{map}
use Rattle.pram_tokens.specs.declared.token.Location.{Location}
use Rattle.pram_tokens.specs.declared.token.Name.{Name}
use Rattle.pram_trees.specs.declared.tree.Expr.{Expr}
use Rattle.pram_trees.specs.declared.tree.Stmt.{Stmt}
use Rattle.pram_trees.specs.declared.tree.Stmt.TheVariants as s
use Rattle.pram_trees.specs.declared.tree.Stmt.TheOpen.{Stmt-F}
use Rattle.pram_trees.specs.declared.tree.Stmt.TheFolds.{fold-roll-Stmt}
use Rattle.pram_names.specs.Scope.{meaning_of, inner_scope}
use Rattle.pram_names.specs.Breaches.{Context, Judged, at, uses, use_breaches, read_count, target_cause, element_cause, variable_cause}
use Rattle.pram_names.specs.Breaches.{new_cause, local_breaches, outside_only, judged_all, for_context, pardo_context, node_breaches}
use Rattle.pram_names.specs.Breaches.{statement_breaches, block_breaches, else_breaches}

each : (body : List Stmt) (c : Context) → judged_all (map statement_breaches body) c ≡ block_breaches body c
each [] c = refl
each (x ∷ rest) c = ap (λ l. statement_breaches x c ++ l) (each rest c)

-- a statement's breaches are those of its form
rolled : (x : Stmt) (f : Stmt-F Judged) (c : Context) → statement_breaches x ≡ node_breaches f → statement_breaches x c ≡ node_breaches f c
rolled x f c h = ap (λ g. g c) h

module _ (c : Context) where
  pub breaches-Assign : (x : Name) (v : Expr) →
      statement_breaches (s.Assign x v) c ≡ at x.location (target_cause c.inside c.loops (meaning_of c.scope x.text))
      ++ use_breaches c.scope 0 (uses v)
  unfolding statement_breaches
  breaches-Assign x v = rolled _ (Stmt-F.Assign x v) c (ap statement_breaches (sym (s.rolls-Assign x v))
      ∙ fold-roll-Stmt Judged node_breaches (Stmt-F.Assign x v))

  pub breaches-AssignElement : (x : Name) (i v : Expr) →
      statement_breaches (s.AssignElement x i v) c ≡ at x.location (element_cause (meaning_of c.scope x.text))
      ++ use_breaches c.scope 0 (uses i ++ uses v)
  unfolding statement_breaches
  breaches-AssignElement x i v = rolled _ (Stmt-F.AssignElement x i v) c (ap statement_breaches (sym (s.rolls-AssignElement x i v))
      ∙ fold-roll-Stmt Judged node_breaches (Stmt-F.AssignElement x i v))

  pub breaches-Print : (l : Location) (v : Expr) →
      statement_breaches (s.Print l v) c ≡ outside_only c.inside l (use_breaches c.scope 0 (uses v))
  unfolding statement_breaches
  breaches-Print l v = rolled _ (Stmt-F.Print l v) c (ap statement_breaches (sym (s.rolls-Print l v))
      ∙ fold-roll-Stmt Judged node_breaches (Stmt-F.Print l v))

  pub breaches-While : (l : Location) (v : Expr) (body : List Stmt) →
      statement_breaches (s.While l v body) c ≡ use_breaches c.scope 0 (uses v) ++ block_breaches body c
  unfolding statement_breaches
  breaches-While l v body =
      rolled _ (Stmt-F.While l v (map statement_breaches body)) c (ap statement_breaches (sym (s.rolls-While l v body))
      ∙ fold-roll-Stmt Judged node_breaches (Stmt-F.While l v body))
      ∙ ap (λ b. use_breaches c.scope 0 (uses v) ++ b) (each body c)

  pub breaches-If : (l : Location) (v : Expr) (body : List Stmt) (other : Option (List Stmt)) →
      statement_breaches (s.If l v body other) c ≡ use_breaches c.scope 0 (uses v) ++ (block_breaches body c ++ else_breaches other c)
  unfolding statement_breaches
  breaches-If l v body None =
      rolled _ (Stmt-F.If l v (map statement_breaches body) None) c (ap statement_breaches (sym (s.rolls-If l v body None))
      ∙ fold-roll-Stmt Judged node_breaches (Stmt-F.If l v body None))
      ∙ ap (λ b. use_breaches c.scope 0 (uses v) ++ (b ++ [])) (each body c)
  breaches-If l v body (Some other) =
      rolled _ (Stmt-F.If l v (map statement_breaches body) (Some (map statement_breaches other))) c
      (ap statement_breaches (sym (s.rolls-If l v body (Some other)))
      ∙ fold-roll-Stmt Judged node_breaches (Stmt-F.If l v body (Some other)))
      ∙ ap (λ b. use_breaches c.scope 0 (uses v) ++ (b ++ judged_all (map statement_breaches other) c)) (each body c)
      ∙ ap (λ b. use_breaches c.scope 0 (uses v) ++ (block_breaches body c ++ b)) (each other c)

  pub breaches-For : (l : Location) (x : Name) (low high : Expr) (body : List Stmt) →
      statement_breaches (s.For l x low high body) c ≡ outside_only c.inside l
      (at x.location (variable_cause c.loops (meaning_of c.scope x.text))
      ++ (use_breaches c.scope 0 (uses low ++ uses high) ++ block_breaches body (for_context c x)))
  unfolding statement_breaches
  breaches-For l x low high body =
      rolled _ (Stmt-F.For l x low high (map statement_breaches body)) c (ap statement_breaches (sym (s.rolls-For l x low high body))
      ∙ fold-roll-Stmt Judged node_breaches (Stmt-F.For l x low high body))
      ∙ ap (λ b. outside_only c.inside l (at x.location (variable_cause c.loops (meaning_of c.scope x.text))
      ++ (use_breaches c.scope 0 (uses low ++ uses high) ++ b))) (each body (for_context c x))

  pub breaches-Pardo : (l : Location) (low : Expr) (x : Name) (high : Expr) (locals : List Name) (body : List Stmt) →
      statement_breaches (s.Pardo l low x high locals body) c ≡ outside_only c.inside l
      (use_breaches c.scope 0 (uses low)
      ++ (at x.location (new_cause c.scope x.text) ++ (use_breaches c.scope (read_count c.scope (uses low)) (uses high)
      ++ (local_breaches (inner_scope c.scope x []) 0 locals ++ block_breaches body (pardo_context c x locals)))))
  unfolding statement_breaches
  breaches-Pardo l low x high locals body =
      rolled _ (Stmt-F.Pardo l low x high locals (map statement_breaches body)) c
      (ap statement_breaches (sym (s.rolls-Pardo l low x high locals body))
      ∙ fold-roll-Stmt Judged node_breaches (Stmt-F.Pardo l low x high locals body))
      ∙ ap (λ b. outside_only c.inside l (use_breaches c.scope 0 (uses low)
      ++ (at x.location (new_cause c.scope x.text) ++ (use_breaches c.scope (read_count c.scope (uses low)) (uses high)
      ++ (local_breaches (inner_scope c.scope x []) 0 locals ++ b))))) (each body (pardo_context c x locals))
