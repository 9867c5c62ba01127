-- The pardos that each form of statement has.
use Rattle.std.proofs.Common.{◌≡◌, List, [], ◌∷◌, Option, Some, None, refl, sym, ap, ◌∙◌, subst}
use Rattle.std.specs.Prelude.{OnOk, Result}
use mathlib.Core.List.{map}
use Rattle.pram_tokens.specs.declared.token.Location.{Location}
use Rattle.pram_tokens.specs.declared.token.Name.{Name}
use Rattle.pram_trees.specs.declared.tree.Expr.{Expr}
use Rattle.pram_trees.specs.declared.tree.Stmt.{Stmt}
use Rattle.pram_trees.specs.declared.tree.Stmt.TheVariants as s
use Rattle.pram_trees.specs.declared.tree.Stmt.TheOpen.{Stmt-F}
use Rattle.pram_trees.specs.declared.tree.Stmt.TheFolds.{fold-roll-Stmt}
use Rattle.pages.specs.Pardos.{Gathering, Pardo, block_pardos, else_pardos, gathered_all, node_pardos, statement_pardos, with_pardo}

-- what is left in a list, by another name for what it should be
pub led : {E : Type 0} (r : Result Unit E) (left : List Pardo) {a b : List Pardo} → a ≡ b → OnOk r (left ≡ b) → OnOk r (left ≡ a)
led r left whole h = subst (λ l. OnOk r (left ≡ l)) (sym whole) h

module _ (found : List Pardo) where
  each : (body : List Stmt) (f : List Pardo) → gathered_all (map statement_pardos body) f ≡ block_pardos body f
  each [] f = refl
  each (x ∷ rest) f = each rest (statement_pardos x f)

  rolled : (x : Stmt) (f : Stmt-F Gathering) → statement_pardos x ≡ node_pardos f → statement_pardos x found ≡ node_pardos f found
  rolled x f h = ap (λ g. g found) h

  module _ (x : Stmt) where
    of_form : (y : Stmt) (names : List Pardo) → x ≡ y → statement_pardos y found ≡ names → statement_pardos x found ≡ names
    of_form y names is h = ap (λ z. statement_pardos z found) is ∙ h

    pub assign_pardos : (t : Name) (v : Expr) → x ≡ s.Assign t v → statement_pardos x found ≡ found
    unfolding statement_pardos
    assign_pardos t v is = of_form (s.Assign t v) _ is (rolled _ (Stmt-F.Assign t v) (ap statement_pardos (sym (s.rolls-Assign t v))
        ∙ fold-roll-Stmt Gathering node_pardos (Stmt-F.Assign t v)))

    pub element_pardos : (t : Name) (i v : Expr) → x ≡ s.AssignElement t i v → statement_pardos x found ≡ found
    unfolding statement_pardos
    element_pardos t i v is =
        of_form (s.AssignElement t i v) _ is (rolled _ (Stmt-F.AssignElement t i v)
        (ap statement_pardos (sym (s.rolls-AssignElement t i v))
        ∙ fold-roll-Stmt Gathering node_pardos (Stmt-F.AssignElement t i v)))

    pub print_pardos : (l : Location) (v : Expr) → x ≡ s.Print l v → statement_pardos x found ≡ found
    unfolding statement_pardos
    print_pardos l v is = of_form (s.Print l v) _ is (rolled _ (Stmt-F.Print l v) (ap statement_pardos (sym (s.rolls-Print l v))
        ∙ fold-roll-Stmt Gathering node_pardos (Stmt-F.Print l v)))

    -- a body is given by a list that is equal to it
    pub while_pardos : (l : Location) (v : Expr) (body given : List Stmt) → x ≡ s.While l v body → given ≡ body →
        statement_pardos x found ≡ block_pardos given found
    unfolding statement_pardos
    while_pardos l v body given is same =
        of_form (s.While l v body) _ is
        (rolled _ (Stmt-F.While l v (map statement_pardos body)) (ap statement_pardos (sym (s.rolls-While l v body))
        ∙ fold-roll-Stmt Gathering node_pardos (Stmt-F.While l v body))
        ∙ each body found)
        ∙ ap (λ b. block_pardos b found) (sym same)

    pub for_pardos : (l : Location) (t : Name) (low high : Expr) (body given : List Stmt) → x ≡ s.For l t low high body → given ≡ body →
        statement_pardos x found ≡ block_pardos given found
    unfolding statement_pardos
    for_pardos l t low high body given is same =
        of_form (s.For l t low high body) _ is
        (rolled _ (Stmt-F.For l t low high (map statement_pardos body)) (ap statement_pardos (sym (s.rolls-For l t low high body))
        ∙ fold-roll-Stmt Gathering node_pardos (Stmt-F.For l t low high body))
        ∙ each body found)
        ∙ ap (λ b. block_pardos b found) (sym same)

    if_form : (l : Location) (v : Expr) (body : List Stmt) (other : Option (List Stmt)) →
        statement_pardos (s.If l v body other) found ≡ else_pardos other (block_pardos body found)
    unfolding statement_pardos
    if_form l v body None =
        rolled _ (Stmt-F.If l v (map statement_pardos body) None) (ap statement_pardos (sym (s.rolls-If l v body None))
        ∙ fold-roll-Stmt Gathering node_pardos (Stmt-F.If l v body None))
        ∙ each body found
    if_form l v body (Some other) =
        rolled _ (Stmt-F.If l v (map statement_pardos body) (Some (map statement_pardos other)))
        (ap statement_pardos (sym (s.rolls-If l v body (Some other)))
        ∙ fold-roll-Stmt Gathering node_pardos (Stmt-F.If l v body (Some other)))
        ∙ ap (gathered_all (map statement_pardos other)) (each body found)
        ∙ each other (block_pardos body found)

    -- `late` was found behind the body
    pub if_pardos : (l : Location) (v : Expr) (body given : List Stmt) (other lent : Option (List Stmt)) (late : List Pardo) →
        x ≡ s.If l v body other → given ≡ body → lent ≡ other → late ≡ block_pardos given found →
        statement_pardos x found ≡ else_pardos lent late
    if_pardos l v body given other lent late is same also behind =
        of_form (s.If l v body other) _ is (if_form l v body other)
        ∙ ap (λ o. else_pardos o (block_pardos body found)) (sym also)
        ∙ ap (else_pardos lent) (ap (λ b. block_pardos b found) (sym same) ∙ sym behind)

    -- `mid` was found before the body
    pub pardo_form : (l : Location) (low : Expr) (t : Name) (high : Expr) (locals names : List Name) (body given : List Stmt)
        (mid : List Pardo) → x ≡ s.Pardo l low t high locals body → names ≡ locals → given ≡ body → mid ≡ with_pardo l t names found →
        statement_pardos x found ≡ block_pardos given mid
    unfolding statement_pardos
    pardo_form l low t high locals names body given mid is listed same before =
        let start = with_pardo l t locals found in
        of_form (s.Pardo l low t high locals body) _ is
        (rolled _ (Stmt-F.Pardo l low t high locals (map statement_pardos body))
        (ap statement_pardos (sym (s.rolls-Pardo l low t high locals body))
        ∙ fold-roll-Stmt Gathering node_pardos (Stmt-F.Pardo l low t high locals body))
        ∙ each body start)
        ∙ ap (λ b. block_pardos b start) (sym same)
        ∙ ap (λ ls. block_pardos given (with_pardo l t ls found)) (sym listed)
        ∙ ap (block_pardos given) (sym before)
