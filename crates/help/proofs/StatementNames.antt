-- The names that each form of statement reaches.
use Rattle.std.proofs.Common.{◌≡◌, List, [], ◌∷◌, Option, Some, None, ℕ, refl, sym, ap, ◌∙◌, subst}
use Rattle.std.specs.Prelude.{OnOk, Result}
use mathlib.Core.List.{map}
use Rattle.pram_tokens.specs.declared.token.Location.{Location}
use Rattle.pram_tokens.specs.declared.token.Name.{Name}
use Rattle.pram_trees.specs.declared.tree.Expr.{Expr}
use Rattle.pram_trees.specs.declared.tree.Stmt.{Stmt}
use Rattle.pram_trees.specs.declared.tree.Stmt.TheVariants as s
use Rattle.pram_trees.specs.declared.tree.Stmt.TheOpen.{Stmt-F}
use Rattle.pram_trees.specs.declared.tree.Stmt.TheFolds.{fold-roll-Stmt}
use Rattle.help.specs.InScope.{Known, Reaching, block_names, else_names, node_names, pardo_names, reached, reached_all}
use Rattle.help.specs.InScope.{reached_locals, statement_names}

-- what is left in a list, by another name for what it should be
pub led : {E : Type 0} (r : Result Unit E) (left : List Known) {a b : List Known} → a ≡ b → OnOk r (left ≡ b) → OnOk r (left ≡ a)
led r left whole h = subst (λ l. OnOk r (left ≡ l)) (sym whole) h

module _ (at : ℕ) (here found : List Known) where
  each : (body : List Stmt) (h f : List Known) → reached_all (map (statement_names at) body) h f ≡ block_names at body h f
  each [] h f = refl
  each (x ∷ rest) h f = each rest h (statement_names at x h f)

  rolled : (x : Stmt) (f : Stmt-F Reaching) → statement_names at x ≡ node_names at f → statement_names at x here found ≡ node_names at f
      here found
  rolled x f h = ap (λ g. g here found) h

  module _ (x : Stmt) where
    of_form : (y : Stmt) (names : List Known) → x ≡ y → statement_names at y here found ≡ names → statement_names at x here found ≡ names
    of_form y names is h = ap (λ z. statement_names at z here found) is ∙ h

    pub assign_names : (t : Name) (v : Expr) → x ≡ s.Assign t v → statement_names at x here found ≡ reached at t.location here found
    unfolding statement_names
    assign_names t v is = of_form (s.Assign t v) _ is (rolled _ (Stmt-F.Assign t v) (ap (statement_names at) (sym (s.rolls-Assign t v))
        ∙ fold-roll-Stmt Reaching (node_names at) (Stmt-F.Assign t v)))

    pub element_names : (t : Name) (i v : Expr) → x ≡ s.AssignElement t i v →
        statement_names at x here found ≡ reached at t.location here found
    unfolding statement_names
    element_names t i v is =
        of_form (s.AssignElement t i v) _ is (rolled _ (Stmt-F.AssignElement t i v)
        (ap (statement_names at) (sym (s.rolls-AssignElement t i v))
        ∙ fold-roll-Stmt Reaching (node_names at) (Stmt-F.AssignElement t i v)))

    pub print_names : (l : Location) (v : Expr) → x ≡ s.Print l v → statement_names at x here found ≡ reached at l here found
    unfolding statement_names
    print_names l v is = of_form (s.Print l v) _ is (rolled _ (Stmt-F.Print l v) (ap (statement_names at) (sym (s.rolls-Print l v))
        ∙ fold-roll-Stmt Reaching (node_names at) (Stmt-F.Print l v)))

    -- a body is given by a list that is equal to it, and what was found before it by another name
    pub while_names : (l : Location) (v : Expr) (body given : List Stmt) (mid : List Known) → x ≡ s.While l v body → given ≡ body →
        mid ≡ reached at l here found → statement_names at x here found ≡ block_names at given here mid
    unfolding statement_names
    while_names l v body given mid is same before =
        of_form (s.While l v body) _ is
        (rolled _ (Stmt-F.While l v (map (statement_names at) body)) (ap (statement_names at) (sym (s.rolls-While l v body))
        ∙ fold-roll-Stmt Reaching (node_names at) (Stmt-F.While l v body))
        ∙ each body here (reached at l here found))
        ∙ ap (λ b. block_names at b here (reached at l here found)) (sym same) ∙ ap (block_names at given here) (sym before)

    pub for_names : (l : Location) (t : Name) (low high : Expr) (body given : List Stmt) (mid : List Known) → x ≡ s.For l t low high body →
        given ≡ body → mid ≡ reached at l here found → statement_names at x here found ≡ block_names at given here mid
    unfolding statement_names
    for_names l t low high body given mid is same before =
        of_form (s.For l t low high body) _ is
        (rolled _ (Stmt-F.For l t low high (map (statement_names at) body)) (ap (statement_names at) (sym (s.rolls-For l t low high body))
        ∙ fold-roll-Stmt Reaching (node_names at) (Stmt-F.For l t low high body))
        ∙ each body here (reached at l here found))
        ∙ ap (λ b. block_names at b here (reached at l here found)) (sym same) ∙ ap (block_names at given here) (sym before)

    if_form : (l : Location) (v : Expr) (body : List Stmt) (other : Option (List Stmt)) →
        statement_names at (s.If l v body other) here found
        ≡ else_names at other here (block_names at body here (reached at l here found))
    unfolding statement_names
    if_form l v body None =
        rolled _ (Stmt-F.If l v (map (statement_names at) body) None) (ap (statement_names at) (sym (s.rolls-If l v body None))
        ∙ fold-roll-Stmt Reaching (node_names at) (Stmt-F.If l v body None))
        ∙ each body here (reached at l here found)
    if_form l v body (Some other) =
        rolled _ (Stmt-F.If l v (map (statement_names at) body) (Some (map (statement_names at) other)))
        (ap (statement_names at) (sym (s.rolls-If l v body (Some other)))
        ∙ fold-roll-Stmt Reaching (node_names at) (Stmt-F.If l v body (Some other)))
        ∙ ap (reached_all (map (statement_names at) other) here) (each body here (reached at l here found))
        ∙ each other here (block_names at body here (reached at l here found))

    -- `mid` was found before the body, and `late` behind it
    pub if_names : (l : Location) (v : Expr) (body given : List Stmt) (other lent : Option (List Stmt)) (mid late : List Known) →
        x ≡ s.If l v body other → given ≡ body → lent ≡ other → mid ≡ reached at l here found → late ≡ block_names at given here mid →
        statement_names at x here found ≡ else_names at lent here late
    if_names l v body given other lent mid late is same also before behind =
        of_form (s.If l v body other) _ is (if_form l v body other)
        ∙ ap (λ o. else_names at o here (block_names at body here (reached at l here found))) (sym also)
        ∙ ap (else_names at lent here) (ap (λ b. block_names at b here (reached at l here found)) (sym same)
        ∙ ap (block_names at given here) (sym before) ∙ sym behind)

    -- `inner` are the names of the pardo, `mid` was found before its locals, and `late` behind them
    pub pardo_form : (l : Location) (low : Expr) (t : Name) (high : Expr) (locals names : List Name) (body given : List Stmt)
        (inner mid late : List Known) → x ≡ s.Pardo l low t high locals body → names ≡ locals → given ≡ body →
        inner ≡ pardo_names at here t names → mid ≡ reached at l here found → late ≡ reached_locals at names inner mid →
        statement_names at x here found ≡ block_names at given inner late
    unfolding statement_names
    pardo_form l low t high locals names body given inner mid late is listed same named before behind =
        let there = pardo_names at here t locals in
        let start = reached at l here found in
        of_form (s.Pardo l low t high locals body) _ is
        (rolled _ (Stmt-F.Pardo l low t high locals (map (statement_names at) body))
        (ap (statement_names at) (sym (s.rolls-Pardo l low t high locals body))
        ∙ fold-roll-Stmt Reaching (node_names at) (Stmt-F.Pardo l low t high locals body))
        ∙ each body there (reached_locals at locals there start))
        ∙ ap (λ b. block_names at b there (reached_locals at locals there start)) (sym same)
        ∙ ap (λ ls. block_names at given (pardo_names at here t ls) (reached_locals at ls (pardo_names at here t ls) start)) (sym listed)
        ∙ ap (λ i. block_names at given i (reached_locals at names i start)) (sym named)
        ∙ ap (λ m. block_names at given inner (reached_locals at names inner m)) (sym before) ∙ ap (block_names at given inner) (sym behind)
