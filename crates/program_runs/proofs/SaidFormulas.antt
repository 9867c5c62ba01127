-- The formula of an expression by its tree alone; what is said of the tree has it.
use Rattle.std.proofs.Common.{◌≡◌, ℕ, List, [], ◌∷◌, Option, Some, None, refl, ap, sym, ◌∙◌}
use mathlib.Core.List.{map}
use Rattle.pram_tokens.specs.declared.token.Binary.{Binary}
use Rattle.pram_tokens.specs.declared.token.Name.{Name}
use Rattle.pram_tokens.specs.declared.token.Numeral.{Numeral}
use Rattle.pram_trees.specs.declared.tree.Prefix.{Prefix}
use Rattle.pram_trees.specs.declared.tree.Expr.{Expr}
use Rattle.pram_trees.specs.declared.tree.Expr.TheVariants as e
use Rattle.pram_trees.specs.declared.tree.Expr.TheOpen.{Expr-F}
use Rattle.pram_trees.specs.declared.tree.Expr.TheFolds.{fold-Expr, fold-roll-Expr}
use Rattle.pram_names.specs.declared.body.Expression.{Expression, Row_of-Link, end_of-Link, more_of-Link, items-the_row-Link}
use Rattle.pram_names.specs.declared.body.Expression.{items_hidden-the_row-Link-0}
use Rattle.pram_names.specs.declared.body.Expression.TheBlock.{hidden-the_row-Link-0}
use Rattle.pram_names.specs.declared.body.Link.{Link}
use Rattle.pram_names.specs.declared.scope.Meaning.{Meaning}
use Rattle.pram_names.specs.declared.scope.Meaning.TheVariants as meaning
use Rattle.pram_names.specs.Resolved.{Says, SayLinks}
use Rattle.pram_names.specs.Resolved as says
use Rattle.pram_names.specs.Scope.{Scope, meaning_of}
use Rattle.plain_form.specs.Formulas.{Formula, formula_of, chained}
use Rattle.plain_form.specs.Formulas as formula

-- a name that isn't declared so has no formula; any will do
abbrev name_formula : Option Meaning → Formula
name_formula (Some (meaning.Uniform k)) = formula.Variable k
name_formula (Some meaning.Index) = formula.Index
name_formula (Some (meaning.Local k)) = formula.Local k
name_formula (Some (meaning.Cell k)) = formula.Read k formula.Zero
name_formula (Some (meaning.Array k)) = formula.Zero
name_formula None = formula.Zero

abbrev element_formula : Option Meaning → Formula → Formula
element_formula (Some (meaning.Array k)) f = formula.Read k f
element_formula (Some (meaning.Uniform k)) f = formula.Zero
element_formula (Some meaning.Index) f = formula.Zero
element_formula (Some (meaning.Local k)) f = formula.Zero
element_formula (Some (meaning.Cell k)) f = formula.Zero
element_formula None f = formula.Zero

abbrev links_formula : Formula → List (Binary × Formula) → Formula
links_formula f [] = f
links_formula f (l ∷ ls) = links_formula (formula.Between l.0 f l.1) ls

abbrev node_formula : Scope → Expr-F Formula → Formula
node_formula scope (Expr-F.Number n) = formula.Number n.value
node_formula scope (Expr-F.Name x) = name_formula (meaning_of scope x.text)
node_formula scope (Expr-F.Element x inner) = element_formula (meaning_of scope x.text) inner
node_formula scope (Expr-F.Paren inner) = inner
node_formula scope (Expr-F.Prefix p operand) = formula.Before p operand
node_formula scope (Expr-F.Chain first rest) = links_formula first rest

-- the formula of a tree in a scope
unfoldable pub formula_by : Scope → Expr → Formula
formula_by scope = fold-Expr Formula (node_formula scope)

abbrev links_by : Scope → Formula → List (Binary × Expr) → Formula
links_by scope f [] = f
links_by scope f (l ∷ ls) = links_by scope (formula.Between l.0 f (formula_by scope l.1)) ls

-- links as a list
abbrev chained_list : Formula → List Link → Formula
chained_list f [] = f
chained_list f (l ∷ ls) = chained_list (formula.Between l.operator f (formula_of l.operand)) ls

chained_row : {n : _} (f : Formula) (k : Row_of-Link n) → chained f k ≡ chained_list f (items-the_row-Link n k)
chained_row f end_of-Link = refl
chained_row f (more_of-Link o e k) = chained_row (formula.Between o f (formula_of e)) k

module _ (scope : Scope) where
  each : (f : Formula) (rest : List (Binary × Expr)) → links_formula f (map (λ l. (l.0, formula_by scope l.1)) rest) ≡ links_by scope f rest
  each f [] = refl
  each f (l ∷ rest) = each (formula.Between l.0 f (formula_by scope l.1)) rest

  by-Number : (n : Numeral) → formula_by scope (e.Number n) ≡ formula.Number n.value
  unfolding formula_by
  by-Number n = ap (formula_by scope) (sym (e.rolls-Number n)) ∙ fold-roll-Expr Formula (node_formula scope) (Expr-F.Number n)

  by-Name : (x : Name) → formula_by scope (e.Name x) ≡ name_formula (meaning_of scope x.text)
  unfolding formula_by
  by-Name x = ap (formula_by scope) (sym (e.rolls-Name x)) ∙ fold-roll-Expr Formula (node_formula scope) (Expr-F.Name x)

  by-Element : (x : Name) (i : Expr) → formula_by scope (e.Element x i) ≡ element_formula (meaning_of scope x.text) (formula_by scope i)
  unfolding formula_by
  by-Element x i = ap (formula_by scope) (sym (e.rolls-Element x i)) ∙ fold-roll-Expr Formula (node_formula scope) (Expr-F.Element x i)

  by-Paren : (i : Expr) → formula_by scope (e.Paren i) ≡ formula_by scope i
  unfolding formula_by
  by-Paren i = ap (formula_by scope) (sym (e.rolls-Paren i)) ∙ fold-roll-Expr Formula (node_formula scope) (Expr-F.Paren i)

  by-Prefix : (p : Prefix) (i : Expr) → formula_by scope (e.Prefix p i) ≡ formula.Before p (formula_by scope i)
  unfolding formula_by
  by-Prefix p i = ap (formula_by scope) (sym (e.rolls-Prefix p i)) ∙ fold-roll-Expr Formula (node_formula scope) (Expr-F.Prefix p i)

  by-Chain : (first : Expr) (rest : List (Binary × Expr)) → formula_by scope (e.Chain first rest)
      ≡ links_by scope (formula_by scope first) rest
  unfolding formula_by
  by-Chain first rest = ap (formula_by scope) (sym (e.rolls-Chain first rest))
      ∙ fold-roll-Expr Formula (node_formula scope) (Expr-F.Chain first rest) ∙ each (formula_by scope first) rest

  mutual
    pub formula_said : (x : Expr) (y : Expression) → Says scope x y → formula_of y ≡ formula_by scope x
    formula_said _ _ (says.number n) = sym (by-Number n)
    formula_said _ _ (says.uniform x k is) = sym (by-Name x ∙ ap name_formula is)
    formula_said _ _ (says.index x is) = sym (by-Name x ∙ ap name_formula is)
    formula_said _ _ (says.local x k is) = sym (by-Name x ∙ ap name_formula is)
    formula_said _ _ (says.cell x k is) = sym (by-Name x ∙ ap name_formula is)
    formula_said _ _ (says.element x k i j is said) =
        ap (formula.Read k) (formula_said i j.value said) ∙ sym (by-Element x i ∙ ap (λ o. element_formula o (formula_by scope i)) is)
    formula_said _ _ (says.paren i x said) = formula_said i x said ∙ sym (by-Paren i)
    formula_said _ _ (says.prefix p i j said) = ap (formula.Before p) (formula_said i j.value said) ∙ sym (by-Prefix p i)
    formula_said _ _ (says.chain first rest x links said linked) =
        chained_row (formula_of x.value) (hidden-the_row-Link-0 links)
        ∙ ap (chained_list (formula_of x.value)) (items_hidden-the_row-Link-0 links)
        ∙ ap (λ f. chained_list f links.items) (formula_said first x.value said)
        ∙ links_said (formula_by scope first) rest links.items linked ∙ sym (by-Chain first rest)

    links_said : (f : Formula) (rest : List (Binary × Expr)) (links : List Link) → SayLinks scope rest links →
        chained_list f links ≡ links_by scope f rest
    links_said f _ _ says.none = refl
    links_said f _ _ (says.more o i rest x links here behind) =
        ap (λ g. chained_list (formula.Between o f g) links) (formula_said i x here)
        ∙ links_said (formula.Between o f (formula_by scope i)) rest links behind
