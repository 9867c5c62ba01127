-- The locals that each form of statement finds.
use Rattle.std.proofs.Common.{◌≡◌, List, [], ◌∷◌, Option, Some, None, ℕ, refl, sym, ap, ◌∙◌}
use mathlib.Core.List.{map}
use Rattle.pram_tokens.specs.declared.token.Location.{Location}
use Rattle.pram_tokens.specs.declared.token.Name.{Name}
use Rattle.pram_trees.specs.declared.tree.Expr.{Expr}
use Rattle.pram_trees.specs.declared.tree.Stmt.{Stmt}
use Rattle.pram_trees.specs.declared.tree.Stmt.TheVariants as s
use Rattle.pram_trees.specs.declared.tree.Stmt.TheOpen.{Stmt-F}
use Rattle.pram_trees.specs.declared.tree.Stmt.TheFolds.{fold-roll-Stmt}
use Rattle.help.specs.Locals.{Finding, block_locals, else_locals, found_all, node_locals, pardo_locals, statement_locals}

module _ (at : ℕ) (found : List Name) where
  each : (body : List Stmt) (f : List Name) → found_all (map (statement_locals at) body) f ≡ block_locals at body f
  each [] f = refl
  each (x ∷ rest) f = each rest (statement_locals at x f)

  rolled : (x : Stmt) (f : Stmt-F Finding) → statement_locals at x ≡ node_locals at f → statement_locals at x found ≡ node_locals at f found
  rolled x f h = ap (λ g. g found) h

  module _ (x : Stmt) where
    of_form : (y : Stmt) (names : List Name) → x ≡ y → statement_locals at y found ≡ names → statement_locals at x found ≡ names
    of_form y names is h = ap (λ z. statement_locals at z found) is ∙ h

    pub assign_locals : (t : Name) (v : Expr) → x ≡ s.Assign t v → statement_locals at x found ≡ found
    unfolding statement_locals
    assign_locals t v is = of_form (s.Assign t v) _ is (rolled _ (Stmt-F.Assign t v) (ap (statement_locals at) (sym (s.rolls-Assign t v))
        ∙ fold-roll-Stmt Finding (node_locals at) (Stmt-F.Assign t v)))

    pub element_locals : (t : Name) (i v : Expr) → x ≡ s.AssignElement t i v → statement_locals at x found ≡ found
    unfolding statement_locals
    element_locals t i v is =
        of_form (s.AssignElement t i v) _ is (rolled _ (Stmt-F.AssignElement t i v)
        (ap (statement_locals at) (sym (s.rolls-AssignElement t i v))
        ∙ fold-roll-Stmt Finding (node_locals at) (Stmt-F.AssignElement t i v)))

    pub print_locals : (l : Location) (v : Expr) → x ≡ s.Print l v → statement_locals at x found ≡ found
    unfolding statement_locals
    print_locals l v is = of_form (s.Print l v) _ is (rolled _ (Stmt-F.Print l v) (ap (statement_locals at) (sym (s.rolls-Print l v))
        ∙ fold-roll-Stmt Finding (node_locals at) (Stmt-F.Print l v)))

    -- a body is given by a list that is equal to it
    pub while_locals : (l : Location) (v : Expr) (body given : List Stmt) → x ≡ s.While l v body → given ≡ body →
        statement_locals at x found ≡ block_locals at given found
    unfolding statement_locals
    while_locals l v body given is same =
        of_form (s.While l v body) _ is
        (rolled _ (Stmt-F.While l v (map (statement_locals at) body)) (ap (statement_locals at) (sym (s.rolls-While l v body))
        ∙ fold-roll-Stmt Finding (node_locals at) (Stmt-F.While l v body))
        ∙ each body found)
        ∙ ap (λ b. block_locals at b found) (sym same)

    pub for_locals : (l : Location) (t : Name) (low high : Expr) (body given : List Stmt) → x ≡ s.For l t low high body → given ≡ body →
        statement_locals at x found ≡ block_locals at given found
    unfolding statement_locals
    for_locals l t low high body given is same =
        of_form (s.For l t low high body) _ is
        (rolled _ (Stmt-F.For l t low high (map (statement_locals at) body)) (ap (statement_locals at) (sym (s.rolls-For l t low high body))
        ∙ fold-roll-Stmt Finding (node_locals at) (Stmt-F.For l t low high body))
        ∙ each body found)
        ∙ ap (λ b. block_locals at b found) (sym same)

    if_form : (l : Location) (v : Expr) (body : List Stmt) (other : Option (List Stmt)) →
        statement_locals at (s.If l v body other) found ≡ else_locals at other (block_locals at body found)
    unfolding statement_locals
    if_form l v body None =
        rolled _ (Stmt-F.If l v (map (statement_locals at) body) None) (ap (statement_locals at) (sym (s.rolls-If l v body None))
        ∙ fold-roll-Stmt Finding (node_locals at) (Stmt-F.If l v body None))
        ∙ each body found
    if_form l v body (Some other) =
        rolled _ (Stmt-F.If l v (map (statement_locals at) body) (Some (map (statement_locals at) other)))
        (ap (statement_locals at) (sym (s.rolls-If l v body (Some other)))
        ∙ fold-roll-Stmt Finding (node_locals at) (Stmt-F.If l v body (Some other)))
        ∙ ap (found_all (map (statement_locals at) other)) (each body found)
        ∙ each other (block_locals at body found)

    -- `late` was found behind the body
    pub if_locals : (l : Location) (v : Expr) (body given : List Stmt) (other lent : Option (List Stmt)) (late : List Name) →
        x ≡ s.If l v body other → given ≡ body → lent ≡ other → late ≡ block_locals at given found →
        statement_locals at x found ≡ else_locals at lent late
    if_locals l v body given other lent late is same also behind =
        of_form (s.If l v body other) _ is (if_form l v body other)
        ∙ ap (λ o. else_locals at o (block_locals at body found)) (sym also)
        ∙ ap (else_locals at lent) (ap (λ b. block_locals at b found) (sym same) ∙ sym behind)

    -- `mid` was found before the body
    pub pardo_form : (l : Location) (low : Expr) (t : Name) (high : Expr) (locals names : List Name) (body given : List Stmt)
        (mid : List Name) → x ≡ s.Pardo l low t high locals body → names ≡ locals → given ≡ body → mid ≡ pardo_locals at l names found →
        statement_locals at x found ≡ block_locals at given mid
    unfolding statement_locals
    pardo_form l low t high locals names body given mid is listed same before =
        let start = pardo_locals at l locals found in
        of_form (s.Pardo l low t high locals body) _ is
        (rolled _ (Stmt-F.Pardo l low t high locals (map (statement_locals at) body))
        (ap (statement_locals at) (sym (s.rolls-Pardo l low t high locals body))
        ∙ fold-roll-Stmt Finding (node_locals at) (Stmt-F.Pardo l low t high locals body))
        ∙ each body start)
        ∙ ap (λ b. block_locals at b start) (sym same)
        ∙ ap (λ ls. block_locals at given (pardo_locals at l ls found)) (sym listed)
        ∙ ap (block_locals at given) (sym before)
