-- Where the tokens of a text stand; the names of an expression are tokens of it, in order.
use Rattle.std.proofs.Common.{◌≡◌, ℕ, List, [], ◌∷◌, ◌++◌, map, subst, sym, ap, ◌∙◌, refl, append_assoc}
use Rattle.pram_tokens.specs.declared.token.Binary.{Binary}
use Rattle.pram_tokens.specs.declared.token.Token.{Token}
use Rattle.pram_trees.specs.declared.tree.Expr.{Expr, roll-Expr, map-Expr}
use Rattle.pram_trees.specs.declared.tree.Expr.TheOpen.{Expr-F}
use Rattle.pram_trees.specs.declared.tree.Expr.TheFolds.{ind-Expr, fold-roll-Expr}
use Rattle.pram_trees.specs.Grammar.{tokens, node_tokens, joined, prefix_token}
use Rattle.pram_trees.specs.declared.tree.Prefix.{Prefix}
use Rattle.pram_trees.specs.declared.tree.Prefix.TheVariants as prefix
use Rattle.pram_names.specs.Breaches.{Use, uses, node_uses, joined_uses}
use Rattle.pram_tokens.specs.InOrder.{place_of, places}
use Rattle.pram_check.proofs.Sublists.{Sub, none, keep, sub_append, sub_behind, sub_front}

pub places_append : (ts us : List Token) → places (ts ++ us) ≡ places ts ++ places us
places_append [] us = refl
places_append (t ∷ ts) us = ap (λ l. place_of t ++ l) (places_append ts us) ∙ sym (append_assoc (place_of t) (places ts) (places us))

-- within those tokens
abbrev pub In : List ℕ → List Token → Type 0
In xs ts = Sub xs (places ts)

join : (xs ys : List ℕ) (ts us : List Token) → In xs ts → In ys us → In (xs ++ ys) (ts ++ us)
join xs ys ts us a b = subst (Sub (xs ++ ys)) (sym (places_append ts us)) (sub_append xs (places ts) ys (places us) a b)

front : (xs : List ℕ) (ts us : List Token) → In xs ts → In xs (ts ++ us)
front xs ts us a = subst (Sub xs) (sym (places_append ts us)) (sub_front xs (places ts) (places us) a)

-- the offsets of names in expressions
abbrev pub use_offsets : List Use → List ℕ
use_offsets [] = []
use_offsets (u ∷ us) = u.name.location.offset ∷ use_offsets us

pub uses_append : (us vs : List Use) → use_offsets (us ++ vs) ≡ use_offsets us ++ use_offsets vs
uses_append [] vs = refl
uses_append (u ∷ us) vs = ap (λ l. u.name.location.offset ∷ l) (uses_append us vs)

abbrev pub UsesIn : List Use → List Token → Type 0
UsesIn us ts = In (use_offsets us) ts

pub join_uses : (us vs : List Use) (ts ws : List Token) → UsesIn us ts → UsesIn vs ws → UsesIn (us ++ vs) (ts ++ ws)
join_uses us vs ts ws a b = subst (λ l. In l (ts ++ ws)) (sym (uses_append us vs)) (join (use_offsets us) (use_offsets vs) ts ws a b)

pub behind_uses : (us : List Use) (ts ws : List Token) → UsesIn us ws → UsesIn us (ts ++ ws)
behind_uses us ts ws a = subst (Sub (use_offsets us)) (sym (places_append ts ws)) (sub_behind (use_offsets us) (places ts) (places ws) a)

abbrev pub Placed : Expr → Type 0
Placed e = UsesIn (uses e) (tokens e)

-- an expression of which it holds
abbrev Held : Type 0
Held = (e : Expr) × Placed e

abbrev exprs : Expr-F Held → Expr-F Expr
exprs = map-Expr Held Expr (λ e. e.0)

steps_in : (rest : List (Binary × Held)) →
    UsesIn (joined_uses (map (λ (s : Binary × Expr). (s.0, uses s.1)) (map (λ (s : Binary × Held). (s.0, s.1.0)) rest)))
    (joined (map (λ (s : Binary × Expr). (s.0, tokens s.1)) (map (λ (s : Binary × Held). (s.0, s.1.0)) rest)))
steps_in [] = none []
steps_in (s ∷ rest) = join_uses (uses s.1.0) _ (tokens s.1.0) _ s.1.1 (steps_in rest)

prefix_in : (us : List Use) (p : Prefix) (ts : List Token) → UsesIn us ts → UsesIn us (prefix_token p ∷ ts)
prefix_in us prefix.Not ts h = h
prefix_in us prefix.Negate ts h = h

layer : (y : Expr-F Held) → UsesIn (node_uses (map-Expr Expr (List Use) uses (exprs y)))
    (node_tokens (map-Expr Expr (List Token) tokens (exprs y)))
layer (Expr-F.Number n) = none (n.location.offset ∷ [])
layer (Expr-F.Name x) = keep [] [] x.location.offset (none [])
layer (Expr-F.Element x i) = keep (use_offsets (uses i.0)) _ x.location.offset (front (use_offsets (uses i.0)) (tokens i.0) _ i.1)
layer (Expr-F.Paren i) = front (use_offsets (uses i.0)) (tokens i.0) _ i.1
layer (Expr-F.Prefix p i) = prefix_in (uses i.0) p (tokens i.0) i.1
layer (Expr-F.Chain first rest) = join_uses (uses first.0) _ (tokens first.0) _ first.1 (steps_in rest)

rolled : (y : Expr-F Held) → Placed (roll-Expr (exprs y))
unfolding uses tokens
rolled y =
    subst (λ us. UsesIn us (tokens (roll-Expr (exprs y)))) (sym (fold-roll-Expr (List Use) node_uses (exprs y)))
    (subst (λ ts. UsesIn (node_uses (map-Expr Expr (List Use) uses (exprs y))) ts) (sym (fold-roll-Expr (List Token) node_tokens (exprs y)))
    (layer y))

-- the names of an expression are tokens of it, in order
pub expression_places : (e : Expr) → Placed e
expression_places = ind-Expr Placed (λ x y is. subst (λ z. Placed (roll-Expr z)) is (rolled y))
