-- The tokens of each form of expression.
use Rattle.std.proofs.Common.{◌≡◌, List, [], ◌∷◌, ◌++◌, refl, sym, ap, ◌∙◌}
use Rattle.std.proofs.lemmas.List.{append-nil}
use mathlib.Core.List.{map}
use Rattle.pram_tokens.specs.declared.token.Binary.{Binary}
use Rattle.pram_tokens.specs.declared.token.Mark.TheVariants as mark
use Rattle.pram_tokens.specs.declared.token.Name.{Name}
use Rattle.pram_tokens.specs.declared.token.Numeral.{Numeral}
use Rattle.pram_tokens.specs.declared.token.Token.{Token}
use Rattle.pram_tokens.specs.declared.token.Token.TheVariants as token
use Rattle.pram_trees.specs.declared.tree.Prefix.{Prefix}
use Rattle.pram_trees.specs.declared.tree.Expr.{Expr}
use Rattle.pram_trees.specs.declared.tree.Expr.TheVariants as e
use Rattle.pram_trees.specs.declared.tree.Expr.TheOpen.{Expr-F}
use Rattle.pram_trees.specs.declared.tree.Expr.TheFolds.{fold-roll-Expr}
use Rattle.pram_trees.specs.Grammar.{tokens, node_tokens, prefix_token, step_tokens, chain, joined}

pub tokens-Number : (n : Numeral) → tokens (e.Number n) ≡ token.Number n ∷ []
unfolding tokens
tokens-Number n = ap tokens (sym (e.rolls-Number n)) ∙ fold-roll-Expr (List Token) node_tokens (Expr-F.Number n)

pub tokens-Name : (x : Name) → tokens (e.Name x) ≡ token.Name x ∷ []
unfolding tokens
tokens-Name x = ap tokens (sym (e.rolls-Name x)) ∙ fold-roll-Expr (List Token) node_tokens (Expr-F.Name x)

pub tokens-Element : (x : Name) (i : Expr) → tokens (e.Element x i) ≡ token.Name x
    ∷ (token.Mark mark.OpenBracket ∷ (tokens i ++ token.Mark mark.CloseBracket ∷ []))
unfolding tokens
tokens-Element x i = ap tokens (sym (e.rolls-Element x i)) ∙ fold-roll-Expr (List Token) node_tokens (Expr-F.Element x i)

pub tokens-Paren : (i : Expr) → tokens (e.Paren i) ≡ token.Mark mark.OpenParen ∷ (tokens i ++ token.Mark mark.CloseParen ∷ [])
unfolding tokens
tokens-Paren i = ap tokens (sym (e.rolls-Paren i)) ∙ fold-roll-Expr (List Token) node_tokens (Expr-F.Paren i)

pub tokens-Prefix : (p : Prefix) (i : Expr) → tokens (e.Prefix p i) ≡ prefix_token p ∷ tokens i
unfolding tokens
tokens-Prefix p i = ap tokens (sym (e.rolls-Prefix p i)) ∙ fold-roll-Expr (List Token) node_tokens (Expr-F.Prefix p i)

pub tokens-Chain : (first : Expr) (rest : List (Binary × Expr)) → tokens (e.Chain first rest) ≡ tokens first ++ step_tokens rest
unfolding tokens
tokens-Chain first rest = ap tokens (sym (e.rolls-Chain first rest)) ∙ fold-roll-Expr (List Token) node_tokens (Expr-F.Chain first rest)
    ∙ ap (λ l. tokens first ++ l) (each rest)
  where
    each : (rest : List (Binary × Expr)) → joined (map (λ s. (s.0, tokens s.1)) rest) ≡ step_tokens rest
    each [] = refl
    each (s ∷ rest) = ap (λ l. token.Binary s.0 ∷ (tokens s.1 ++ l)) (each rest)

pub tokens-chain : (first : Expr) (rest : List (Binary × Expr)) → tokens (chain first rest) ≡ tokens first ++ step_tokens rest
tokens-chain first [] = sym (append-nil (tokens first))
tokens-chain first (s ∷ rest) = tokens-Chain first (s ∷ rest)
