-- Expressions with the same tokens at other places.
use Rattle.std.proofs.Common.{◌≡◌, ℕ, zero, suc, List, [], ◌∷◌, ◌++◌, map, refl, sym, ap, ◌∙◌}
use Rattle.pram_tokens.specs.declared.token.Binary.{Binary}
use Rattle.pram_tokens.specs.declared.token.Binary.TheVariants as op
use Rattle.pram_tokens.specs.declared.token.Location.{Location}
use Rattle.pram_tokens.specs.declared.token.Mark.{Mark}
use Rattle.pram_tokens.specs.declared.token.Mark.TheVariants as mark
use Rattle.pram_tokens.specs.declared.token.Name.{Name}
use Rattle.pram_tokens.specs.declared.token.Numeral.{Numeral}
use Rattle.pram_tokens.specs.declared.token.Opening.{Opening}
use Rattle.pram_tokens.specs.declared.token.Token.{Token}
use Rattle.pram_tokens.specs.declared.token.Token.TheVariants as token
use Rattle.pram_trees.specs.declared.tree.Prefix.{Prefix}
use Rattle.pram_trees.specs.declared.tree.Prefix.TheVariants as prefix
use Rattle.pram_trees.specs.declared.level.Level.{Level}
use Rattle.pram_trees.specs.declared.level.Level.TheVariants as level
use Rattle.pram_trees.specs.declared.tree.Expr.{Expr}
use Rattle.pram_trees.specs.declared.tree.Expr.TheVariants as e
use Rattle.pram_trees.specs.declared.tree.Expr.TheOpen.{Expr-F}
use Rattle.pram_trees.specs.declared.tree.Expr.TheFolds.{fold-roll-Expr}
use Rattle.pram_trees.specs.Grammar.{tokens, step_tokens, chain, prefix_token, AreSteps, IsShort, Chained, chained, Compared, compared}
use Rattle.pram_trees.specs.Grammar.{IsAtom, number, name, element, paren, IsUnary, minus, atom, IsTerm, IsSum, IsComparison, IsNegation}
use Rattle.pram_trees.specs.Grammar.{not, comparison, IsConjunction, IsAt, Fits, Further}
use Rattle.pram_printer.specs.Places.{bare_expr, bare_name, bare_node, bare_number, start}
use Rattle.pram_trees.proofs.ExprTokens.{tokens-Number, tokens-Name, tokens-Element, tokens-Paren, tokens-Prefix, tokens-chain}

-- a token at the start of a text
abbrev pub bare : Token → Token
bare (token.Name x) = token.Name (bare_name x)
bare (token.Number n) = token.Number (bare_number n)
bare (token.Opening o at) = token.Opening o start
bare t = t

-- the same tokens, but for their locations
pub record Like (ts us : List Token) : Type 0 where
  pub all : map bare ts ≡ map bare us

pub like_as : {ts us vs : List Token} → us ≡ vs → Like ts us → Like ts vs
like_as is same = record { all = same.all ∙ ap (map bare) is }

pub like_none : (ts : List Token) → Like ts [] → ts ≡ []
like_none [] same = refl
like_none (t ∷ ts) same = absurd (let a = same.all in cc)

pub like_part : (us vs ts : List Token) → Like ts (us ++ vs) → (a : List Token) × (b : List Token) × (ts ≡ a ++ b) × Like a us × Like b vs
like_part [] vs ts same = ([], ts, refl, record { all = refl }, same)
like_part (u ∷ us) vs [] same = absurd (let a = same.all in cc)
like_part (u ∷ us) vs (t ∷ ts) same =
    let a = same.all in
    let rest : Like ts (us ++ vs) = record { all = cc } in
    let p = like_part us vs ts rest in (
      t ∷ p.0,
      p.1,
      ap (λ l. t ∷ l) p.2,
      record {
        all = let h : bare t ≡ bare u = cc in ap (λ x. x ∷ map bare p.0) h
            ∙ ap (λ l. bare u ∷ l) p.3.all;
      },
      p.4,
    )

-- a token that has no location
abbrev pub IsFixed : Token → Type 0
IsFixed u = (t : Token) → bare t ≡ bare u → t ≡ u

pub fixed_mark : (m : Mark) → IsFixed (token.Mark m)
fixed_mark m (token.Name x) same = absurd (cc)
fixed_mark m (token.Number n) same = absurd (cc)
fixed_mark m (token.Binary o) same = absurd (cc)
fixed_mark m token.Not same = absurd (cc)
fixed_mark m (token.Opening o at) same = absurd (cc)
fixed_mark m (token.Mark n) same = same

pub fixed_binary : (o : Binary) → IsFixed (token.Binary o)
fixed_binary m (token.Name x) same = absurd (cc)
fixed_binary m (token.Number n) same = absurd (cc)
fixed_binary m (token.Binary o) same = same
fixed_binary m token.Not same = absurd (cc)
fixed_binary m (token.Opening o at) same = absurd (cc)
fixed_binary m (token.Mark n) same = absurd (cc)

pub fixed_not : IsFixed token.Not
fixed_not (token.Name x) same = absurd (cc)
fixed_not (token.Number n) same = absurd (cc)
fixed_not (token.Binary o) same = absurd (cc)
fixed_not token.Not same = refl
fixed_not (token.Opening o at) same = absurd (cc)
fixed_not (token.Mark n) same = absurd (cc)

pub like_fixed : (u : Token) → IsFixed u → (us ts : List Token) → Like ts (u ∷ us) → (rest : List Token) × (ts ≡ u ∷ rest) × Like rest us
like_fixed u fixed us [] same = absurd (let a = same.all in cc)
like_fixed u fixed us (t ∷ ts) same = let a = same.all in let h : bare t ≡ bare u = cc in
    (ts, ap (λ x. x ∷ ts) (fixed t h), record { all = cc })

pub like_name : (x : Name) (us ts : List Token) → Like ts (token.Name x ∷ us) → (y : Name) × (rest : List Token)
    × (ts ≡ token.Name y ∷ rest) × (bare_name y ≡ bare_name x) × Like rest us
like_name x us [] same = absurd (let a = same.all in cc)
like_name x us (t ∷ ts) same = by t (let a = same.all in cc)
  where
    rest : Like ts us
    rest = let a = same.all in record { all = cc }

    by : (t : Token) → bare t ≡ token.Name (bare_name x) → (y : Name) × (rest : List Token) × (t ∷ ts ≡ token.Name y ∷ rest)
        × (bare_name y ≡ bare_name x) × Like rest us
    by (token.Name y) h = (y, ts, refl, cc, rest)
    by (token.Number n) h = absurd (cc)
    by (token.Binary o) h = absurd (cc)
    by token.Not h = absurd (cc)
    by (token.Opening o at) h = absurd (cc)
    by (token.Mark n) h = absurd (cc)

pub like_number : (x : Numeral) (us ts : List Token) → Like ts (token.Number x ∷ us) →
    (y : Numeral) × (rest : List Token) × (ts ≡ token.Number y ∷ rest) × (bare_number y ≡ bare_number x) × Like rest us
like_number x us [] same = absurd (let a = same.all in cc)
like_number x us (t ∷ ts) same = by t (let a = same.all in cc)
  where
    rest : Like ts us
    rest = let a = same.all in record { all = cc }

    by : (t : Token) → bare t ≡ token.Number (bare_number x) → (y : Numeral) × (rest : List Token) × (t ∷ ts ≡ token.Number y ∷ rest)
        × (bare_number y ≡ bare_number x) × Like rest us
    by (token.Name y) h = absurd (cc)
    by (token.Number y) h = (y, ts, refl, cc, rest)
    by (token.Binary o) h = absurd (cc)
    by token.Not h = absurd (cc)
    by (token.Opening o at) h = absurd (cc)
    by (token.Mark n) h = absurd (cc)

pub like_opening : (o : Opening) (at : Location) (us ts : List Token) → Like ts (token.Opening o at ∷ us) →
    (p : Location) × (rest : List Token) × (ts ≡ token.Opening o p ∷ rest) × Like rest us
like_opening o at us [] same = absurd (let a = same.all in cc)
like_opening o at us (t ∷ ts) same = by t (let a = same.all in cc)
  where
    rest : Like ts us
    rest = let a = same.all in record { all = cc }

    by : (t : Token) → bare t ≡ token.Opening o start → (p : Location) × (rest : List Token) × (t ∷ ts ≡ token.Opening o p ∷ rest)
        × Like rest us
    by (token.Name y) h = absurd (cc)
    by (token.Number y) h = absurd (cc)
    by (token.Binary o) h = absurd (cc)
    by token.Not h = absurd (cc)
    by (token.Opening q p) h = let is : q ≡ o = cc in (p, ts, ap (λ w. token.Opening w p ∷ ts) is, rest)
    by (token.Mark n) h = absurd (cc)

-- Each form of expression at the start of a text.

pub bare-Number : (n : Numeral) → bare_expr (e.Number n) ≡ e.Number (bare_number n)
unfolding bare_expr
bare-Number n = ap bare_expr (sym (e.rolls-Number n)) ∙ fold-roll-Expr Expr bare_node (Expr-F.Number n)

pub bare-Name : (x : Name) → bare_expr (e.Name x) ≡ e.Name (bare_name x)
unfolding bare_expr
bare-Name x = ap bare_expr (sym (e.rolls-Name x)) ∙ fold-roll-Expr Expr bare_node (Expr-F.Name x)

pub bare-Element : (x : Name) (i : Expr) → bare_expr (e.Element x i) ≡ e.Element (bare_name x) (bare_expr i)
unfolding bare_expr
bare-Element x i = ap bare_expr (sym (e.rolls-Element x i)) ∙ fold-roll-Expr Expr bare_node (Expr-F.Element x i)

pub bare-Paren : (i : Expr) → bare_expr (e.Paren i) ≡ e.Paren (bare_expr i)
unfolding bare_expr
bare-Paren i = ap bare_expr (sym (e.rolls-Paren i)) ∙ fold-roll-Expr Expr bare_node (Expr-F.Paren i)

pub bare-Prefix : (p : Prefix) (i : Expr) → bare_expr (e.Prefix p i) ≡ e.Prefix p (bare_expr i)
unfolding bare_expr
bare-Prefix p i = ap bare_expr (sym (e.rolls-Prefix p i)) ∙ fold-roll-Expr Expr bare_node (Expr-F.Prefix p i)

abbrev pub bare_steps : List (Binary × Expr) → List (Binary × Expr)
bare_steps = map (λ s. (s.0, bare_expr s.1))

pub bare-Chain : (first : Expr) (rest : List (Binary × Expr)) → bare_expr (e.Chain first rest) ≡ e.Chain (bare_expr first) (bare_steps rest)
unfolding bare_expr
bare-Chain first rest = ap bare_expr (sym (e.rolls-Chain first rest)) ∙ fold-roll-Expr Expr bare_node (Expr-F.Chain first rest)

bare-chain : (first : Expr) (rest : List (Binary × Expr)) → bare_expr (chain first rest) ≡ chain (bare_expr first) (bare_steps rest)
bare-chain first [] = refl
bare-chain first (s ∷ rest) = bare-Chain first (s ∷ rest)

-- an expression of those tokens, which is x but for locations
pub record Moved (P : Expr → Type 0) (x : Expr) (ts : List Token) : Type 0 where
  pub there : Expr
  pub fits : P there
  pub has : tokens there ≡ ts
  pub same : bare_expr there ≡ bare_expr x

-- there is one for any such tokens
abbrev pub Moves : (Expr → Type 0) → Expr → Type 0
Moves P x = (ts : List Token) → Like ts (tokens x) → Moved P x ts

record MovedSteps (l : Level) (P : Expr → Type 0) (rest : List (Binary × Expr)) (ts : List Token) : Type 0 where
  there : List (Binary × Expr)
  fits : AreSteps l P there
  has : step_tokens there ≡ ts
  same : bare_steps there ≡ bare_steps rest

short_there : (r s : List (Binary × Expr)) → bare_steps r ≡ bare_steps s → IsShort s → IsShort r
short_there [] s same h = tt
short_there (x ∷ []) s same h = tt
short_there (x ∷ y ∷ r) [] same h = absurd (cc)
short_there (x ∷ y ∷ r) (z ∷ []) same h = absurd (let e : bare_steps (y ∷ r) ≡ [] = cc in cc)
short_there (x ∷ y ∷ r) (z ∷ w ∷ s) same h = h

module _ (l : Level) (P : Expr → Type 0) (moves : (x : Expr) → P x → Moves P x) where
  steps_move : (rest : List (Binary × Expr)) → AreSteps l P rest → (ts : List Token) → Like ts (step_tokens rest) → MovedSteps l P rest ts
  steps_move [] h ts same = record { there = []; fits = tt; has = sym (like_none ts same); same = refl }
  steps_move (s ∷ rest) h ts same =
      let p = like_fixed (token.Binary s.0) (fixed_binary s.0) (tokens s.1 ++ step_tokens rest) ts same in
      let q = like_part (tokens s.1) (step_tokens rest) p.0 p.2 in
      let one = moves s.1 h.1 q.0 q.3 in
      let more = steps_move rest h.2 q.1 q.4 in
      record {
        there = (s.0, one.there) ∷ more.there;
        fits = (h.0, one.fits, more.fits);
        has = ap (λ v. token.Binary s.0 ∷ (v ++ step_tokens more.there)) one.has ∙ ap (λ v. token.Binary s.0 ∷ (q.0 ++ v)) more.has
            ∙ ap (λ v. token.Binary s.0 ∷ v) (sym q.2) ∙ sym p.1;
        same = ap (λ x. let z : Binary × Expr = (s.0, x) in z ∷ bare_steps more.there) one.same
            ∙ ap (λ r. let z : Binary × Expr = (s.0, bare_expr s.1) in z ∷ r) more.same;
      }

  -- the first operand and the rest, as they stand there
  chain_moves : (Q : Expr → Type 0) (first : Expr) (rest : List (Binary × Expr)) → P first → AreSteps l P rest →
      ((f : Expr) (r : List (Binary × Expr)) → P f → AreSteps l P r → bare_steps r ≡ bare_steps rest → Q (chain f r)) →
      Moves Q (chain first rest)
  chain_moves Q first rest one more put ts same =
      let q = like_part (tokens first) (step_tokens rest) ts (like_as (tokens-chain first rest) same) in
      let f = moves first one q.0 q.3 in
      let r = steps_move rest more q.1 q.4 in
      record {
        there = chain f.there r.there;
        fits = put f.there r.there f.fits r.fits r.same;
        has = tokens-chain f.there r.there ∙ ap (λ v. v ++ step_tokens r.there) f.has ∙ ap (λ v. q.0 ++ v) r.has ∙ sym q.2;
        same = bare-chain f.there r.there ∙ ap (λ z. chain z (bare_steps r.there)) f.same ∙ ap (chain (bare_expr first)) r.same
            ∙ sym (bare-chain first rest);
      }

  chained_moves : (x : Expr) → Chained l P x → Moves (Chained l P) x
  chained_moves _ (chained first rest one more) = chain_moves (Chained l P) first rest one more (λ f r hf hr same. chained f r hf hr)

  compared_moves : (x : Expr) → Compared l P x → Moves (Compared l P) x
  compared_moves _ (compared first rest one more short) =
      chain_moves (Compared l P) first rest one more (λ f r hf hr same. compared f r hf hr (short_there r rest same short))

widened : {P Q : Expr → Type 0} {x : Expr} {ts : List Token} → ((y : Expr) → P y → Q y) → Moved P x ts → Moved Q x ts
widened up m = record { there = m.there; fits = up m.there m.fits; has = m.has; same = m.same }

module _ (I : Level → Expr → Type 0) (inner : (l : Level) (x : Expr) → I l x → Moves (I l) x) where
  prefix_moves : (l : Level) (Q : Expr → Type 0) (p : Prefix) (i : Expr) → IsFixed (prefix_token p) → I l i →
      ((j : Expr) → I l j → Q (e.Prefix p j)) → Moves Q (e.Prefix p i)
  prefix_moves l Q p i fixed h put ts same =
      let q = like_fixed (prefix_token p) fixed (tokens i) ts (like_as (tokens-Prefix p i) same) in
      let m = inner l i h q.0 q.2 in
      record {
        there = e.Prefix p m.there;
        fits = put m.there m.fits;
        has = tokens-Prefix p m.there ∙ ap (λ v. prefix_token p ∷ v) m.has ∙ sym q.1;
        same = bare-Prefix p m.there ∙ ap (e.Prefix p) m.same ∙ sym (bare-Prefix p i);
      }

  atom_moves : (x : Expr) → IsAtom I x → Moves (IsAtom I) x
  atom_moves _ (number n) ts same =
      let q = like_number n [] ts (like_as (tokens-Number n) same) in
      let none = like_none q.1 q.4 in
      record {
        there = e.Number q.0;
        fits = number q.0;
        has = tokens-Number q.0 ∙ ap (λ v. token.Number q.0 ∷ v) (sym none) ∙ sym q.2;
        same = bare-Number q.0 ∙ ap e.Number q.3 ∙ sym (bare-Number n);
      }
  atom_moves _ (name x) ts same =
      let q = like_name x [] ts (like_as (tokens-Name x) same) in
      let none = like_none q.1 q.4 in
      record {
        there = e.Name q.0;
        fits = name q.0;
        has = tokens-Name q.0 ∙ ap (λ v. token.Name q.0 ∷ v) (sym none) ∙ sym q.2;
        same = bare-Name q.0 ∙ ap e.Name q.3 ∙ sym (bare-Name x);
      }
  atom_moves _ (element x i h) ts same =
      let q = like_name x (token.Mark mark.OpenBracket ∷ (tokens i ++ token.Mark mark.CloseBracket ∷ [])) ts
      (like_as (tokens-Element x i) same) in
      let o = like_fixed (token.Mark mark.OpenBracket) (fixed_mark mark.OpenBracket) (tokens i ++ token.Mark mark.CloseBracket
      ∷ []) q.1 q.4 in
      let p = like_part (tokens i) (token.Mark mark.CloseBracket ∷ []) o.0 o.2 in
      let m = inner level.Expression i h p.0 p.3 in
      let c = like_fixed (token.Mark mark.CloseBracket) (fixed_mark mark.CloseBracket) [] p.1 p.4 in
      let none = like_none c.0 c.2 in
      record {
        there = e.Element q.0 m.there;
        fits = element q.0 m.there m.fits;
        has = tokens-Element q.0 m.there
            ∙ ap (λ v. token.Name q.0 ∷ (token.Mark mark.OpenBracket ∷ (v ++ token.Mark mark.CloseBracket ∷ []))) m.has
            ∙ ap (λ v. token.Name q.0 ∷ (token.Mark mark.OpenBracket ∷ (p.0 ++ v))) (ap (λ v. token.Mark mark.CloseBracket ∷ v) (sym none)
            ∙ sym c.1)
            ∙ ap (λ v. token.Name q.0 ∷ (token.Mark mark.OpenBracket ∷ v)) (sym p.2) ∙ ap (λ v. token.Name q.0 ∷ v) (sym o.1) ∙ sym q.2;
        same = bare-Element q.0 m.there ∙ ap (λ z. e.Element z (bare_expr m.there)) q.3 ∙ ap (e.Element (bare_name x)) m.same
            ∙ sym (bare-Element x i);
      }
  atom_moves _ (paren i h) ts same =
      let o = like_fixed (token.Mark mark.OpenParen) (fixed_mark mark.OpenParen) (tokens i ++ token.Mark mark.CloseParen
      ∷ []) ts (like_as (tokens-Paren i) same) in
      let p = like_part (tokens i) (token.Mark mark.CloseParen ∷ []) o.0 o.2 in
      let m = inner level.Expression i h p.0 p.3 in
      let c = like_fixed (token.Mark mark.CloseParen) (fixed_mark mark.CloseParen) [] p.1 p.4 in
      let none = like_none c.0 c.2 in
      record {
        there = e.Paren m.there;
        fits = paren m.there m.fits;
        has = tokens-Paren m.there ∙ ap (λ v. token.Mark mark.OpenParen ∷ (v ++ token.Mark mark.CloseParen ∷ [])) m.has
            ∙ ap (λ v. token.Mark mark.OpenParen ∷ (p.0 ++ v)) (ap (λ v. token.Mark mark.CloseParen ∷ v) (sym none) ∙ sym c.1)
            ∙ ap (λ v. token.Mark mark.OpenParen ∷ v) (sym p.2) ∙ sym o.1;
        same = bare-Paren m.there ∙ ap e.Paren m.same ∙ sym (bare-Paren i);
      }

  unary_moves : (x : Expr) → IsUnary I x → Moves (IsUnary I) x
  unary_moves _ (minus i h) ts same = prefix_moves level.Unary (IsUnary I) prefix.Negate i (fixed_binary op.Subtract) h minus ts same
  unary_moves x (atom h) ts same = widened (λ y g. atom g) (atom_moves x h ts same)

  term_moves : (x : Expr) → IsTerm I x → Moves (IsTerm I) x
  term_moves = chained_moves level.Term (IsUnary I) unary_moves

  sum_moves : (x : Expr) → IsSum I x → Moves (IsSum I) x
  sum_moves = chained_moves level.Sum (IsTerm I) term_moves

  comparison_moves : (x : Expr) → IsComparison I x → Moves (IsComparison I) x
  comparison_moves = compared_moves level.Comparison (IsSum I) sum_moves

  negation_moves : (x : Expr) → IsNegation I x → Moves (IsNegation I) x
  negation_moves _ (not i h) ts same = prefix_moves level.Negation (IsNegation I) prefix.Not i fixed_not h not ts same
  negation_moves x (comparison h) ts same = widened (λ y g. comparison g) (comparison_moves x h ts same)

  conjunction_moves : (x : Expr) → IsConjunction I x → Moves (IsConjunction I) x
  conjunction_moves = chained_moves level.Conjunction (IsNegation I) negation_moves

  at_moves : (l : Level) (x : Expr) → IsAt I l x → Moves (IsAt I l) x
  at_moves level.Expression = chained_moves level.Expression (IsConjunction I) conjunction_moves
  at_moves level.Conjunction = conjunction_moves
  at_moves level.Negation = negation_moves
  at_moves level.Comparison = comparison_moves
  at_moves level.Sum = sum_moves
  at_moves level.Term = term_moves
  at_moves level.Unary = unary_moves
  at_moves level.Atom = atom_moves

pub further_moves : (d : ℕ) (l : Level) (x : Expr) → Further d l x → Moves (Further d l) x
further_moves zero l x never = absurd never
further_moves (suc d) l x h = at_moves (Further d) (further_moves d) l x h

pub fits_moves : (d : ℕ) (l : Level) (x : Expr) → Fits d l x → Moves (Fits d l) x
fits_moves d = at_moves (Further d) (further_moves d)
