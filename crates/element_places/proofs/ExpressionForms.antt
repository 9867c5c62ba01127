-- The elements in each form of expression.
use Rattle.std.proofs.Common.{◌≡◌, ℕ, List, [], ◌∷◌, ◌++◌, refl, sym, ap, ◌∙◌}
use mathlib.Core.List.{map}
use Rattle.pram_tokens.specs.declared.token.Binary.{Binary}
use Rattle.pram_tokens.specs.declared.token.Name.{Name}
use Rattle.pram_tokens.specs.declared.token.Numeral.{Numeral}
use Rattle.pram_trees.specs.declared.tree.Prefix.{Prefix}
use Rattle.pram_trees.specs.declared.tree.Expr.{Expr}
use Rattle.pram_trees.specs.declared.tree.Expr.TheVariants as e
use Rattle.pram_trees.specs.declared.tree.Expr.TheOpen.{Expr-F}
use Rattle.pram_trees.specs.declared.tree.Expr.TheFolds.{fold-roll-Expr}
use Rattle.element_places.specs.Elements.{elements, joined_links, link_elements, named, node_elements}

module _ (w : List ℕ) where
  pub of-Number : (n : Numeral) → elements w (e.Number n) ≡ []
  unfolding elements
  of-Number n = ap (elements w) (sym (e.rolls-Number n)) ∙ fold-roll-Expr (List ℕ) (node_elements w) (Expr-F.Number n)

  pub of-Name : (x : Name) → elements w (e.Name x) ≡ []
  unfolding elements
  of-Name x = ap (elements w) (sym (e.rolls-Name x)) ∙ fold-roll-Expr (List ℕ) (node_elements w) (Expr-F.Name x)

  pub of-Element : (x : Name) (i : Expr) → elements w (e.Element x i) ≡ elements w i ++ named w x
  unfolding elements
  of-Element x i = ap (elements w) (sym (e.rolls-Element x i)) ∙ fold-roll-Expr (List ℕ) (node_elements w) (Expr-F.Element x i)

  pub of-Paren : (i : Expr) → elements w (e.Paren i) ≡ elements w i
  unfolding elements
  of-Paren i = ap (elements w) (sym (e.rolls-Paren i)) ∙ fold-roll-Expr (List ℕ) (node_elements w) (Expr-F.Paren i)

  pub of-Prefix : (p : Prefix) (i : Expr) → elements w (e.Prefix p i) ≡ elements w i
  unfolding elements
  of-Prefix p i = ap (elements w) (sym (e.rolls-Prefix p i)) ∙ fold-roll-Expr (List ℕ) (node_elements w) (Expr-F.Prefix p i)

  pub of-Chain : (first : Expr) (rest : List (Binary × Expr)) → elements w (e.Chain first rest) ≡ elements w first ++ link_elements w rest
  unfolding elements
  of-Chain first rest =
      ap (elements w) (sym (e.rolls-Chain first rest)) ∙ fold-roll-Expr (List ℕ) (node_elements w) (Expr-F.Chain first rest)
      ∙ ap (λ l. elements w first ++ l) (each rest)
    where
      each : (rest : List (Binary × Expr)) → joined_links (map (λ s. (s.0, elements w s.1)) rest) ≡ link_elements w rest
      each [] = refl
      each (s ∷ rest) = ap (λ l. elements w s.1 ++ l) (each rest)

  -- ---- of an expression that has the form, with what stands in it given by what is equal to it

  pub as-Element : (it : Expr) (x : Name) (i given : Expr) → it ≡ e.Element x i → given ≡ i → elements w it ≡ elements w given ++ named w x
  as-Element it x i given is same = ap (elements w) is ∙ of-Element x i ∙ ap (λ y. elements w y ++ named w x) (sym same)

  pub as-Paren : (it i given : Expr) → it ≡ e.Paren i → given ≡ i → elements w it ≡ elements w given
  as-Paren it i given is same = ap (elements w) is ∙ of-Paren i ∙ ap (elements w) (sym same)

  pub as-Prefix : (it : Expr) (p : Prefix) (i given : Expr) → it ≡ e.Prefix p i → given ≡ i → elements w it ≡ elements w given
  as-Prefix it p i given is same = ap (elements w) is ∙ of-Prefix p i ∙ ap (elements w) (sym same)

  pub as-Chain : (it first given : Expr) (rest lent : List (Binary × Expr)) → it ≡ e.Chain first rest → given ≡ first → lent ≡ rest
      → elements w it ≡ elements w given ++ link_elements w lent
  as-Chain it first given rest lent is same also = ap (elements w) is ∙ of-Chain first rest
      ∙ ap (λ y. elements w y ++ link_elements w rest) (sym same) ∙ ap (λ y. elements w given ++ link_elements w y) (sym also)
