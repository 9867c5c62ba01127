-- What an expression of a tree does, by itself; what is said of it does the same.
use Rattle.std.proofs.Common.{◌≡◌, List, [], ◌∷◌, Option, Some, None, ℤ, pos, refl, ap, sym, ◌∙◌}
use mathlib.Core.List.{map}
use Rattle.std.specs.Prelude.{slice_index_or}
use Rattle.pram_model.specs.Layout.{cell_of}
use Rattle.pram_tokens.specs.declared.token.Binary.{Binary}
use Rattle.pram_tokens.specs.declared.token.Name.{Name}
use Rattle.pram_tokens.specs.declared.token.Numeral.{Numeral}
use Rattle.pram_trees.specs.declared.tree.Prefix.{Prefix}
use Rattle.pram_trees.specs.declared.tree.Expr.{Expr}
use Rattle.pram_trees.specs.declared.tree.Expr.TheVariants as e
use Rattle.pram_trees.specs.declared.tree.Expr.TheOpen.{Expr-F}
use Rattle.pram_trees.specs.declared.tree.Expr.TheFolds.{fold-Expr, fold-roll-Expr}
use Rattle.pram_values.specs.declared.kind.Kind.TheVariants.{OutOfRange}
use Rattle.pram_names.specs.declared.body.Expression.{Expression}
use Rattle.pram_names.specs.declared.body.Link.{Link}
use Rattle.pram_names.specs.declared.scope.Meaning.{Meaning}
use Rattle.pram_names.specs.declared.scope.Meaning.TheVariants.{Uniform, Cell, Array, Index, Local}
use Rattle.pram_names.specs.Resolved.{Says, SayLinks}
use Rattle.pram_names.specs.Resolved as says
use Rattle.pram_names.specs.Scope.{Scope, meaning_of}
use Rattle.pram_meaning.specs.Attempt.{Attempt, Fails, Gives, Trail, and_then, attempt, operation, read}
use Rattle.pram_meaning.specs.Operation.{operate, operate_before}
use Rattle.pram_meaning.specs.Store.{View}
use Rattle.pram_meaning.proofs.Links.{attempt_chain, attempt_items}

abbrev pub Reading : Type 0
Reading = View → Trail → Attempt ℤ

abbrev name_value : Option Meaning → Reading
name_value (Some (Uniform k)) s t = Gives t (slice_index_or s.uniforms k (pos 0))
name_value (Some Index) s t = Gives t s.index
name_value (Some (Local k)) s t = Gives t (slice_index_or s.locals k (pos 0))
name_value (Some (Cell k)) s t = read s (cell_of s.layout k (pos 0)) t
name_value (Some (Array k)) s t = Fails t OutOfRange
name_value None s t = Fails t OutOfRange

abbrev element_value : Option Meaning → Reading → Reading
element_value (Some (Array k)) inner s t = and_then (inner s t) (λ t z. read s (cell_of s.layout k z) t)
element_value (Some (Uniform k)) inner s t = Fails t OutOfRange
element_value (Some Index) inner s t = Fails t OutOfRange
element_value (Some (Local k)) inner s t = Fails t OutOfRange
element_value (Some (Cell k)) inner s t = Fails t OutOfRange
element_value None inner s t = Fails t OutOfRange

abbrev links_value : List (Binary × Reading) → View → Trail → ℤ → Attempt ℤ
links_value [] s t v = Gives t v
links_value (l ∷ ls) s t v = and_then (l.1 s t) (λ t w. and_then (operation (operate l.0 v w) t) (links_value ls s))

abbrev node_value : Scope → Expr-F Reading → Reading
node_value scope (Expr-F.Number n) s t = Gives t n.value
node_value scope (Expr-F.Name x) s t = name_value (meaning_of scope x.text) s t
node_value scope (Expr-F.Element x inner) s t = element_value (meaning_of scope x.text) inner s t
node_value scope (Expr-F.Paren inner) s t = inner s t
node_value scope (Expr-F.Prefix p operand) s t = and_then (operand s t) (λ t v. operation (operate_before p v) t)
node_value scope (Expr-F.Chain first rest) s t = and_then (first s t) (links_value rest s)

-- what an expression does in a scope
unfoldable pub value_by : Scope → Expr → Reading
value_by scope = fold-Expr Reading (node_value scope)

abbrev links_by : Scope → List (Binary × Expr) → View → Trail → ℤ → Attempt ℤ
links_by scope [] s t v = Gives t v
links_by scope (l ∷ ls) s t v = and_then (value_by scope l.1 s t) (λ t w. and_then (operation (operate l.0 v w) t) (links_by scope ls s))

module _ (scope : Scope) (s : View) where
  each : (rest : List (Binary × Expr)) (t : Trail) (v : ℤ) → links_value
      (map (λ l. (l.0, value_by scope l.1)) rest) s t v ≡ links_by scope rest s t v
  each [] t v = refl
  each (l ∷ rest) t v = ap (and_then (value_by scope l.1 s t)) (λ j t w. and_then (operation (operate l.0 v w) t) (λ t u. each rest t u j))

  by-Number : (n : Numeral) (t : Trail) → value_by scope (e.Number n) s t ≡ Gives t n.value
  unfolding value_by
  by-Number n t = ap (λ x. value_by scope x s t) (sym (e.rolls-Number n))
      ∙ ap (λ (f : Reading). f s t) (fold-roll-Expr Reading (node_value scope) (Expr-F.Number n))

  by-Name : (x : Name) (t : Trail) → value_by scope (e.Name x) s t ≡ name_value (meaning_of scope x.text) s t
  unfolding value_by
  by-Name x t = ap (λ y. value_by scope y s t) (sym (e.rolls-Name x))
      ∙ ap (λ (f : Reading). f s t) (fold-roll-Expr Reading (node_value scope) (Expr-F.Name x))

  by-Element : (x : Name) (i : Expr) (t : Trail) → value_by scope (e.Element x i) s t ≡ element_value (meaning_of scope x.text)
      (value_by scope i) s t
  unfolding value_by
  by-Element x i t = ap (λ y. value_by scope y s t) (sym (e.rolls-Element x i))
      ∙ ap (λ (f : Reading). f s t) (fold-roll-Expr Reading (node_value scope) (Expr-F.Element x i))

  by-Paren : (i : Expr) (t : Trail) → value_by scope (e.Paren i) s t ≡ value_by scope i s t
  unfolding value_by
  by-Paren i t = ap (λ y. value_by scope y s t) (sym (e.rolls-Paren i))
      ∙ ap (λ (f : Reading). f s t) (fold-roll-Expr Reading (node_value scope) (Expr-F.Paren i))

  by-Prefix : (p : Prefix) (i : Expr) (t : Trail) → value_by scope (e.Prefix p i) s t ≡ and_then (value_by scope i s t)
      (λ t v. operation (operate_before p v) t)
  unfolding value_by
  by-Prefix p i t = ap (λ y. value_by scope y s t) (sym (e.rolls-Prefix p i))
      ∙ ap (λ (f : Reading). f s t) (fold-roll-Expr Reading (node_value scope) (Expr-F.Prefix p i))

  by-Chain : (first : Expr) (rest : List (Binary × Expr)) (t : Trail) →
      value_by scope (e.Chain first rest) s t ≡ and_then (value_by scope first s t) (links_by scope rest s)
  unfolding value_by
  by-Chain first rest t =
      ap (λ y. value_by scope y s t) (sym (e.rolls-Chain first rest))
      ∙ ap (λ (f : Reading). f s t) (fold-roll-Expr Reading (node_value scope) (Expr-F.Chain first rest))
      ∙ ap (and_then (value_by scope first s t)) (λ j t v. each rest t v j)

  mutual
    pub value_said : (x : Expr) (y : Expression) → Says scope x y → (t : Trail) → attempt s y t ≡ value_by scope x s t
    value_said _ _ (says.number n) t = sym (by-Number n t)
    value_said _ _ (says.uniform x k is) t = sym (by-Name x t ∙ ap (λ o. name_value o s t) is)
    value_said _ _ (says.index x is) t = sym (by-Name x t ∙ ap (λ o. name_value o s t) is)
    value_said _ _ (says.local x k is) t = sym (by-Name x t ∙ ap (λ o. name_value o s t) is)
    value_said _ _ (says.cell x k is) t = sym (by-Name x t ∙ ap (λ o. name_value o s t) is)
    value_said _ _ (says.element x k i j is said) t =
        ap (λ a. and_then a (λ t z. read s (cell_of s.layout k z) t)) (value_said i j.value said t)
        ∙ sym (by-Element x i t ∙ ap (λ o. element_value o (value_by scope i) s t) is)
    value_said _ _ (says.paren i x said) t = value_said i x said t ∙ sym (by-Paren i t)
    value_said _ _ (says.prefix p i j said) t =
        ap (λ a. and_then a (λ t v. operation (operate_before p v) t)) (value_said i j.value said t) ∙ sym (by-Prefix p i t)
    value_said _ _ (says.chain first rest x links said linked) t =
        attempt_chain s x links t ∙ ap (λ a. and_then a (attempt_items s links.items)) (value_said first x.value said t)
        ∙ ap (and_then (value_by scope first s t)) (λ j t v. links_said rest links.items linked t v j) ∙ sym (by-Chain first rest t)

    links_said : (rest : List (Binary × Expr)) (links : List Link) → SayLinks scope rest links → (t : Trail) (v : ℤ) →
        attempt_items s links t v ≡ links_by scope rest s t v
    links_said _ _ says.none t v = refl
    links_said _ _ (says.more o i rest x links here behind) t v =
        ap (λ a. and_then a (λ t w. and_then (operation (operate o v w) t) (attempt_items s links))) (value_said i x here t)
        ∙ ap (and_then (value_by scope i s t)) (λ j t w. and_then (operation (operate o v w) t) (λ t u. links_said rest links behind t u j))
