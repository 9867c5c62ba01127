-- The names of pardos that each form of statement finds.
use Rattle.std.proofs.Common.{◌≡◌, List, [], ◌∷◌, Option, Some, None, ℕ, refl, sym, ap, ◌∙◌}
use mathlib.Core.List.{map}
use Rattle.pram_tokens.specs.declared.token.Location.{Location}
use Rattle.pram_tokens.specs.declared.token.Name.{Name}
use Rattle.pram_trees.specs.declared.tree.Expr.{Expr}
use Rattle.pram_trees.specs.declared.tree.Stmt.{Stmt}
use Rattle.pram_trees.specs.declared.tree.Stmt.TheVariants as s
use Rattle.pram_trees.specs.declared.tree.Stmt.TheOpen.{Stmt-F}
use Rattle.pram_trees.specs.declared.tree.Stmt.TheFolds.{fold-roll-Stmt}
use Rattle.help.specs.InScope.{Known}
use Rattle.help.specs.Bound.{Seeking, block_bound, else_bound, found_all, node_bound, pardo_bound, statement_bound}

module _ (word : List ℕ) (found : Option Known) where
  each : (body : List Stmt) (f : Option Known) → found_all (map (statement_bound word) body) f ≡ block_bound word body f
  each [] f = refl
  each (x ∷ rest) f = each rest (statement_bound word x f)

  rolled : (x : Stmt) (f : Stmt-F Seeking) → statement_bound word x ≡ node_bound word f → statement_bound word x found ≡ node_bound
      word f found
  rolled x f h = ap (λ g. g found) h

  module _ (x : Stmt) where
    of_form : (y : Stmt) (names : Option Known) → x ≡ y → statement_bound word y found ≡ names → statement_bound word x found ≡ names
    of_form y names is h = ap (λ z. statement_bound word z found) is ∙ h

    pub assign_bound : (t : Name) (v : Expr) → x ≡ s.Assign t v → statement_bound word x found ≡ found
    unfolding statement_bound
    assign_bound t v is = of_form (s.Assign t v) _ is (rolled _ (Stmt-F.Assign t v) (ap (statement_bound word) (sym (s.rolls-Assign t v))
        ∙ fold-roll-Stmt Seeking (node_bound word) (Stmt-F.Assign t v)))

    pub element_bound : (t : Name) (i v : Expr) → x ≡ s.AssignElement t i v → statement_bound word x found ≡ found
    unfolding statement_bound
    element_bound t i v is =
        of_form (s.AssignElement t i v) _ is (rolled _ (Stmt-F.AssignElement t i v)
        (ap (statement_bound word) (sym (s.rolls-AssignElement t i v))
        ∙ fold-roll-Stmt Seeking (node_bound word) (Stmt-F.AssignElement t i v)))

    pub print_bound : (l : Location) (v : Expr) → x ≡ s.Print l v → statement_bound word x found ≡ found
    unfolding statement_bound
    print_bound l v is = of_form (s.Print l v) _ is (rolled _ (Stmt-F.Print l v) (ap (statement_bound word) (sym (s.rolls-Print l v))
        ∙ fold-roll-Stmt Seeking (node_bound word) (Stmt-F.Print l v)))

    -- a body is given by a list that is equal to it
    pub while_bound : (l : Location) (v : Expr) (body given : List Stmt) → x ≡ s.While l v body → given ≡ body →
        statement_bound word x found ≡ block_bound word given found
    unfolding statement_bound
    while_bound l v body given is same =
        of_form (s.While l v body) _ is
        (rolled _ (Stmt-F.While l v (map (statement_bound word) body)) (ap (statement_bound word) (sym (s.rolls-While l v body))
        ∙ fold-roll-Stmt Seeking (node_bound word) (Stmt-F.While l v body))
        ∙ each body found)
        ∙ ap (λ b. block_bound word b found) (sym same)

    pub for_bound : (l : Location) (t : Name) (low high : Expr) (body given : List Stmt) → x ≡ s.For l t low high body → given ≡ body →
        statement_bound word x found ≡ block_bound word given found
    unfolding statement_bound
    for_bound l t low high body given is same =
        of_form (s.For l t low high body) _ is
        (rolled _ (Stmt-F.For l t low high (map (statement_bound word) body))
        (ap (statement_bound word) (sym (s.rolls-For l t low high body))
        ∙ fold-roll-Stmt Seeking (node_bound word) (Stmt-F.For l t low high body))
        ∙ each body found)
        ∙ ap (λ b. block_bound word b found) (sym same)

    if_form : (l : Location) (v : Expr) (body : List Stmt) (other : Option (List Stmt)) →
        statement_bound word (s.If l v body other) found ≡ else_bound word other (block_bound word body found)
    unfolding statement_bound
    if_form l v body None =
        rolled _ (Stmt-F.If l v (map (statement_bound word) body) None) (ap (statement_bound word) (sym (s.rolls-If l v body None))
        ∙ fold-roll-Stmt Seeking (node_bound word) (Stmt-F.If l v body None))
        ∙ each body found
    if_form l v body (Some other) =
        rolled _ (Stmt-F.If l v (map (statement_bound word) body) (Some (map (statement_bound word) other)))
        (ap (statement_bound word) (sym (s.rolls-If l v body (Some other)))
        ∙ fold-roll-Stmt Seeking (node_bound word) (Stmt-F.If l v body (Some other)))
        ∙ ap (found_all (map (statement_bound word) other)) (each body found)
        ∙ each other (block_bound word body found)

    -- `late` was found behind the body
    pub if_bound : (l : Location) (v : Expr) (body given : List Stmt) (other lent : Option (List Stmt)) (late : Option Known) →
        x ≡ s.If l v body other → given ≡ body → lent ≡ other → late ≡ block_bound word given found →
        statement_bound word x found ≡ else_bound word lent late
    if_bound l v body given other lent late is same also behind =
        of_form (s.If l v body other) _ is (if_form l v body other)
        ∙ ap (λ o. else_bound word o (block_bound word body found)) (sym also)
        ∙ ap (else_bound word lent) (ap (λ b. block_bound word b found) (sym same) ∙ sym behind)

    -- `mid` was found before the body
    pub pardo_form : (l : Location) (low : Expr) (t : Name) (high : Expr) (locals names : List Name) (body given : List Stmt)
        (mid : Option Known) → x ≡ s.Pardo l low t high locals body → names ≡ locals → given ≡ body → mid ≡ pardo_bound word t names found →
        statement_bound word x found ≡ block_bound word given mid
    unfolding statement_bound
    pardo_form l low t high locals names body given mid is listed same before =
        let start = pardo_bound word t locals found in
        of_form (s.Pardo l low t high locals body) _ is
        (rolled _ (Stmt-F.Pardo l low t high locals (map (statement_bound word) body))
        (ap (statement_bound word) (sym (s.rolls-Pardo l low t high locals body))
        ∙ fold-roll-Stmt Seeking (node_bound word) (Stmt-F.Pardo l low t high locals body))
        ∙ each body start)
        ∙ ap (λ b. block_bound word b start) (sym same)
        ∙ ap (λ ls. block_bound word given (pardo_bound word t ls found)) (sym listed)
        ∙ ap (block_bound word given) (sym before)
