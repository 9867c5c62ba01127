-- How deep a tree's statements nest.
use Rattle.std.proofs.Common.{◌≡◌, ◌+◌, ◌≤◌, ℕ, zero, suc, max, List, [], ◌∷◌, Option, Some, None, refl, sym, ap, ◌∙◌, arith}
use mathlib.Core.List.{map}
use Rattle.pram_tokens.specs.declared.token.Location.{Location}
use Rattle.pram_tokens.specs.declared.token.Name.{Name}
use Rattle.pram_trees.specs.declared.tree.Expr.{Expr}
use Rattle.pram_trees.specs.declared.tree.Stmt.{Stmt}
use Rattle.pram_trees.specs.declared.tree.Stmt.TheVariants as s
use Rattle.pram_trees.specs.declared.tree.Stmt.TheOpen.{Stmt-F}
use Rattle.pram_trees.specs.declared.tree.Stmt.TheFolds.{fold-Stmt, fold-roll-Stmt}
use Rattle.pram_trees.specs.Blocks as grammar
use Rattle.pram_trees.specs.Blocks.{IsBlock, IsFurtherBlock}

abbrev deepest : List ℕ → ℕ
deepest [] = 0
deepest (n ∷ ns) = max n (deepest ns)

abbrev deepest_else : Option (List ℕ) → ℕ
deepest_else None = 0
deepest_else (Some ns) = deepest ns

abbrev node_depth : Stmt-F ℕ → ℕ
node_depth (Stmt-F.Assign x v) = 0
node_depth (Stmt-F.AssignElement x i v) = 0
node_depth (Stmt-F.Print l v) = 0
node_depth (Stmt-F.While l e body) = 1 + deepest body
node_depth (Stmt-F.If l e body other) = 1 + max (deepest body) (deepest_else other)
node_depth (Stmt-F.For l x low high body) = 1 + deepest body
node_depth (Stmt-F.Pardo l low x high locals body) = 1 + deepest body

unfoldable pub tree_depth : Stmt → ℕ
tree_depth = fold-Stmt ℕ node_depth

abbrev pub block_depth : List Stmt → ℕ
block_depth [] = 0
block_depth (x ∷ rest) = max (tree_depth x) (block_depth rest)

abbrev pub else_depth : Option (List Stmt) → ℕ
else_depth None = 0
else_depth (Some other) = block_depth other

each : (body : List Stmt) → deepest (map tree_depth body) ≡ block_depth body
each [] = refl
each (x ∷ rest) = ap (λ n. max (tree_depth x) n) (each rest)

pub depth-Assign : (x : Name) (v : Expr) → tree_depth (s.Assign x v) ≡ 0
unfolding tree_depth
depth-Assign x v = ap tree_depth (sym (s.rolls-Assign x v)) ∙ fold-roll-Stmt ℕ node_depth (Stmt-F.Assign x v)

pub depth-AssignElement : (x : Name) (i v : Expr) → tree_depth (s.AssignElement x i v) ≡ 0
unfolding tree_depth
depth-AssignElement x i v = ap tree_depth (sym (s.rolls-AssignElement x i v)) ∙ fold-roll-Stmt ℕ node_depth (Stmt-F.AssignElement x i v)

pub depth-Print : (l : Location) (v : Expr) → tree_depth (s.Print l v) ≡ 0
unfolding tree_depth
depth-Print l v = ap tree_depth (sym (s.rolls-Print l v)) ∙ fold-roll-Stmt ℕ node_depth (Stmt-F.Print l v)

pub depth-While : (l : Location) (v : Expr) (body : List Stmt) → tree_depth (s.While l v body) ≡ 1 + block_depth body
unfolding tree_depth
depth-While l v body = ap tree_depth (sym (s.rolls-While l v body)) ∙ fold-roll-Stmt ℕ node_depth (Stmt-F.While l v body)
    ∙ ap (λ n. 1 + n) (each body)

pub depth-If : (l : Location) (v : Expr) (body : List Stmt) (other : Option (List Stmt)) →
    tree_depth (s.If l v body other) ≡ 1 + max (block_depth body) (else_depth other)
unfolding tree_depth
depth-If l v body None =
    ap tree_depth (sym (s.rolls-If l v body None)) ∙ fold-roll-Stmt ℕ node_depth (Stmt-F.If l v body None)
    ∙ ap (λ n. 1 + max n 0) (each body)
depth-If l v body (Some other) =
    ap tree_depth (sym (s.rolls-If l v body (Some other))) ∙ fold-roll-Stmt ℕ node_depth (Stmt-F.If l v body (Some other))
    ∙ ap (λ n. 1 + max n (deepest (map tree_depth other))) (each body) ∙ ap (λ n. 1 + max (block_depth body) n) (each other)

pub depth-For : (l : Location) (x : Name) (low high : Expr) (body : List Stmt) → tree_depth (s.For l x low high body) ≡ 1 + block_depth body
unfolding tree_depth
depth-For l x low high body = ap tree_depth (sym (s.rolls-For l x low high body))
    ∙ fold-roll-Stmt ℕ node_depth (Stmt-F.For l x low high body) ∙ ap (λ n. 1 + n) (each body)

pub depth-Pardo : (l : Location) (low : Expr) (x : Name) (high : Expr) (locals : List Name) (body : List Stmt) →
    tree_depth (s.Pardo l low x high locals body) ≡ 1 + block_depth body
unfolding tree_depth
depth-Pardo l low x high locals body =
    ap tree_depth (sym (s.rolls-Pardo l low x high locals body)) ∙ fold-roll-Stmt ℕ node_depth (Stmt-F.Pardo l low x high locals body)
    ∙ ap (λ n. 1 + n) (each body)

-- ---- what the grammar says of it

module _ (b d : ℕ) (further : (body : List Stmt) → IsFurtherBlock b d body → 1 + block_depth body ≤ b) where
  statement_depth : (x : Stmt) → grammar.IsStatement d (IsFurtherBlock b d) x → tree_depth x ≤ b
  statement_depth _ (grammar.assign x v h) = let e = depth-Assign x v in omega (arith, e)
  statement_depth _ (grammar.assign_element x i v h g) = let e = depth-AssignElement x i v in omega (arith, e)
  statement_depth _ (grammar.print at v h) = let e = depth-Print at v in omega (arith, e)
  statement_depth _ (grammar.while at c body h k) = let e = depth-While at c body in let f = further body k in omega (arith, e, f)
  statement_depth _ (grammar.if_then at c body h k) = let e = depth-If at c body None in let f = further body k in omega (arith, e, f)
  statement_depth _ (grammar.if_else at c body other h k m) =
      let e = depth-If at c body (Some other) in
      let f = further body k in
      let g = further other m in
      omega (arith, e, f, g)
  statement_depth _ (grammar.for_to at x low high body h g k) = let e = depth-For at x low high body in let f = further body k in omega
      (arith, e, f)
  statement_depth _ (grammar.pardo at low x high locals body h g k) = let e = depth-Pardo at low x high locals body in let f =
      further body k in omega (arith, e, f)

  statements_depth : (body : List Stmt) → grammar.AreStatements d (IsFurtherBlock b d) body → block_depth body ≤ b
  statements_depth [] h = omega arith
  statements_depth (x ∷ rest) h = let e = statement_depth x h.0 in let f = statements_depth rest h.1 in omega (arith, e, f)

further_depth : (b d : ℕ) (body : List Stmt) → IsFurtherBlock b d body → 1 + block_depth body ≤ b
further_depth zero d body h = absurd h
further_depth (suc b) d body h = let e = statements_depth b d (further_depth b d) body h in omega (arith, e)

-- blocks within the grammar's limit
pub depth_within : (b d : ℕ) (body : List Stmt) → IsBlock b d body → block_depth body ≤ b
depth_within b d body h = statements_depth b d (further_depth b d) body h
