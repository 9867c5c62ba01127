-- The names of each form of expression.
use Rattle.std.proofs.Common.{◌≡◌, List, [], ◌∷◌, ◌++◌, refl, sym, ap, ◌∙◌}
use mathlib.Core.List.{map}
use Rattle.pram_tokens.specs.declared.token.Binary.{Binary}
use Rattle.pram_tokens.specs.declared.token.Name.{Name}
use Rattle.pram_tokens.specs.declared.token.Numeral.{Numeral}
use Rattle.pram_trees.specs.declared.tree.Prefix.{Prefix}
use Rattle.pram_trees.specs.declared.tree.Expr.{Expr}
use Rattle.pram_trees.specs.declared.tree.Expr.TheVariants as e
use Rattle.pram_trees.specs.declared.tree.Expr.TheOpen.{Expr-F}
use Rattle.pram_trees.specs.declared.tree.Expr.TheFolds.{fold-roll-Expr}
use Rattle.pram_names.specs.Breaches.{Use, plain, subscripted, uses, node_uses, step_uses, joined_uses}

pub uses-Number : (n : Numeral) → uses (e.Number n) ≡ []
unfolding uses
uses-Number n = ap uses (sym (e.rolls-Number n)) ∙ fold-roll-Expr (List Use) node_uses (Expr-F.Number n)

pub uses-Name : (x : Name) → uses (e.Name x) ≡ plain x ∷ []
unfolding uses
uses-Name x = ap uses (sym (e.rolls-Name x)) ∙ fold-roll-Expr (List Use) node_uses (Expr-F.Name x)

pub uses-Element : (x : Name) (i : Expr) → uses (e.Element x i) ≡ subscripted x ∷ uses i
unfolding uses
uses-Element x i = ap uses (sym (e.rolls-Element x i)) ∙ fold-roll-Expr (List Use) node_uses (Expr-F.Element x i)

pub uses-Paren : (i : Expr) → uses (e.Paren i) ≡ uses i
unfolding uses
uses-Paren i = ap uses (sym (e.rolls-Paren i)) ∙ fold-roll-Expr (List Use) node_uses (Expr-F.Paren i)

pub uses-Prefix : (p : Prefix) (i : Expr) → uses (e.Prefix p i) ≡ uses i
unfolding uses
uses-Prefix p i = ap uses (sym (e.rolls-Prefix p i)) ∙ fold-roll-Expr (List Use) node_uses (Expr-F.Prefix p i)

pub uses-Chain : (first : Expr) (rest : List (Binary × Expr)) → uses (e.Chain first rest) ≡ uses first ++ step_uses rest
unfolding uses
uses-Chain first rest = ap uses (sym (e.rolls-Chain first rest)) ∙ fold-roll-Expr (List Use) node_uses (Expr-F.Chain first rest)
    ∙ ap (λ l. uses first ++ l) (each rest)
  where
    each : (rest : List (Binary × Expr)) → joined_uses (map (λ s. (s.0, uses s.1)) rest) ≡ step_uses rest
    each [] = refl
    each (s ∷ rest) = ap (λ l. uses s.1 ++ l) (each rest)
