-- The elements in each form of statement.
use Rattle.std.proofs.Common.{◌≡◌, ℕ, List, [], ◌∷◌, ◌++◌, Option, Some, None, refl, sym, ap, ◌∙◌}
use mathlib.Core.List.{map}
use Rattle.pram_tokens.specs.declared.token.Location.{Location}
use Rattle.pram_tokens.specs.declared.token.Name.{Name}
use Rattle.pram_trees.specs.declared.tree.Expr.{Expr}
use Rattle.pram_trees.specs.declared.tree.Stmt.{Stmt}
use Rattle.pram_trees.specs.declared.tree.Stmt.TheVariants as s
use Rattle.pram_trees.specs.declared.tree.Stmt.TheOpen.{Stmt-F}
use Rattle.pram_trees.specs.declared.tree.Stmt.TheFolds.{fold-roll-Stmt}
use Rattle.element_places.specs.Elements.{assigned, block_elements, elements, else_elements, here, joined, node_at}
use Rattle.element_places.specs.Elements.{statement_elements}

module _ (w : List ℕ) (at : ℕ) where
  each : (body : List Stmt) → joined (map (statement_elements w at) body) ≡ block_elements w at body
  each [] = refl
  each (x ∷ rest) = ap (λ l. statement_elements w at x ++ l) (each rest)

  pub of-Assign : (x : Name) (v : Expr) → statement_elements w at (s.Assign x v) ≡ here x.location at (elements w v)
  unfolding statement_elements
  of-Assign x v = ap (statement_elements w at) (sym (s.rolls-Assign x v)) ∙ fold-roll-Stmt (List ℕ) (node_at w at) (Stmt-F.Assign x v)

  pub of-AssignElement : (x : Name) (i v : Expr) → statement_elements w at (s.AssignElement x i v) ≡ here x.location at (assigned w x i v)
  unfolding statement_elements
  of-AssignElement x i v = ap (statement_elements w at) (sym (s.rolls-AssignElement x i v))
      ∙ fold-roll-Stmt (List ℕ) (node_at w at) (Stmt-F.AssignElement x i v)

  pub of-Print : (l : Location) (v : Expr) → statement_elements w at (s.Print l v) ≡ here l at (elements w v)
  unfolding statement_elements
  of-Print l v = ap (statement_elements w at) (sym (s.rolls-Print l v)) ∙ fold-roll-Stmt (List ℕ) (node_at w at) (Stmt-F.Print l v)

  pub of-While : (l : Location) (e : Expr) (body : List Stmt) →
      statement_elements w at (s.While l e body) ≡ here l at (elements w e) ++ block_elements w at body
  unfolding statement_elements
  of-While l e body = ap (statement_elements w at) (sym (s.rolls-While l e body))
      ∙ fold-roll-Stmt (List ℕ) (node_at w at) (Stmt-F.While l e body)
      ∙ ap (λ b. here l at (elements w e) ++ b) (each body)

  pub of-If : (l : Location) (e : Expr) (body : List Stmt) (other : Option (List Stmt)) → statement_elements w at (s.If l e body other)
      ≡ here l at (elements w e) ++ (block_elements w at body ++ else_elements w at other)
  unfolding statement_elements
  of-If l e body None = ap (statement_elements w at) (sym (s.rolls-If l e body None))
      ∙ fold-roll-Stmt (List ℕ) (node_at w at) (Stmt-F.If l e body None)
      ∙ ap (λ b. here l at (elements w e) ++ (b ++ [])) (each body)
  of-If l e body (Some other) = ap (statement_elements w at) (sym (s.rolls-If l e body (Some other)))
      ∙ fold-roll-Stmt (List ℕ) (node_at w at) (Stmt-F.If l e body (Some other))
      ∙ ap (λ b. here l at (elements w e) ++ (b ++ joined (map (statement_elements w at) other))) (each body)
      ∙ ap (λ b. here l at (elements w e) ++ (block_elements w at body ++ b)) (each other)

  pub of-For : (l : Location) (x : Name) (low high : Expr) (body : List Stmt) → statement_elements w at (s.For l x low high body)
      ≡ here l at (elements w low ++ elements w high) ++ block_elements w at body
  unfolding statement_elements
  of-For l x low high body = ap (statement_elements w at) (sym (s.rolls-For l x low high body))
      ∙ fold-roll-Stmt (List ℕ) (node_at w at) (Stmt-F.For l x low high body)
      ∙ ap (λ b. here l at (elements w low ++ elements w high) ++ b) (each body)

  pub of-Pardo : (l : Location) (low : Expr) (x : Name) (high : Expr) (locals : List Name) (body : List Stmt) →
      statement_elements w at (s.Pardo l low x high locals body)
      ≡ here l at (elements w low ++ elements w high) ++ block_elements w at body
  unfolding statement_elements
  of-Pardo l low x high locals body = ap (statement_elements w at) (sym (s.rolls-Pardo l low x high locals body))
      ∙ fold-roll-Stmt (List ℕ) (node_at w at) (Stmt-F.Pardo l low x high locals body)
      ∙ ap (λ b. here l at (elements w low ++ elements w high) ++ b) (each body)

  -- ---- of a statement that has the form, with what stands in it given by what is equal to it

  pub as-While : (it : Stmt) (l : Location) (e : Expr) (body given : List Stmt) → it ≡ s.While l e body → given ≡ body →
      statement_elements w at it ≡ here l at (elements w e) ++ block_elements w at given
  as-While it l e body given is same = ap (statement_elements w at) is ∙ of-While l e body
      ∙ ap (λ b. here l at (elements w e) ++ block_elements w at b) (sym same)

  pub as-If : (it : Stmt) (l : Location) (e : Expr) (body given : List Stmt) (other lent : Option (List Stmt)) → it ≡ s.If l e body other →
      given ≡ body → lent ≡ other →
      statement_elements w at it ≡ here l at (elements w e) ++ (block_elements w at given ++ else_elements w at lent)
  as-If it l e body given other lent is same also = ap (statement_elements w at) is ∙ of-If l e body other
      ∙ ap (λ b. here l at (elements w e) ++ (block_elements w at b ++ else_elements w at other)) (sym same)
      ∙ ap (λ o. here l at (elements w e) ++ (block_elements w at given ++ else_elements w at o)) (sym also)

  pub as-For : (it : Stmt) (l : Location) (x : Name) (low high : Expr) (body given : List Stmt) → it ≡ s.For l x low high body →
      given ≡ body →
      statement_elements w at it ≡ here l at (elements w low ++ elements w high) ++ block_elements w at given
  as-For it l x low high body given is same = ap (statement_elements w at) is ∙ of-For l x low high body
      ∙ ap (λ b. here l at (elements w low ++ elements w high) ++ block_elements w at b) (sym same)

  pub as-Pardo : (it : Stmt) (l : Location) (low : Expr) (x : Name) (high : Expr) (locals : List Name) (body given : List Stmt) →
      it ≡ s.Pardo l low x high locals body → given ≡ body →
      statement_elements w at it ≡ here l at (elements w low ++ elements w high) ++ block_elements w at given
  as-Pardo it l low x high locals body given is same = ap (statement_elements w at) is ∙ of-Pardo l low x high locals body
      ∙ ap (λ b. here l at (elements w low ++ elements w high) ++ block_elements w at b) (sym same)
