-- What may be expected covers the tokens that may fulfil it, and so does what the first of these tokens leaves of it: expressions.
use Rattle.std.proofs.Common.{◌≡◌, ℕ, zero, suc, Bool, true, false, List, [], ◌∷◌, ◌++◌, ◌⊎◌, inl, inr, refl, sym, ap, ◌∙◌, subst}
use Rattle.std.proofs.Common.{append_assoc, if◌then◌else◌}
use Rattle.std.proofs.lemmas.List.{append-nil}
use Rattle.pram_trees.specs.declared.level.Level.{Level}
use Rattle.pram_trees.specs.declared.level.Level.TheVariants as level
use Rattle.pram_model.specs.declared.rule.Rule.{Rule}
use Rattle.pram_tokens.specs.declared.token.Binary.{Binary}
use Rattle.pram_tokens.specs.declared.token.Binary.TheVariants as op
use Rattle.pram_tokens.specs.declared.token.Location.{Location}
use Rattle.pram_tokens.specs.declared.token.Mark.{Mark}
use Rattle.pram_tokens.specs.declared.token.Mark.TheVariants as mark
use Rattle.pram_tokens.specs.declared.token.Name.{Name}
use Rattle.pram_tokens.specs.declared.token.Numeral.{Numeral}
use Rattle.pram_tokens.specs.declared.token.Opening.TheVariants as opening
use Rattle.pram_tokens.specs.declared.token.Token.{Token}
use Rattle.pram_tokens.specs.declared.token.Token.TheVariants as token
use Rattle.pram_trees.specs.declared.tree.Declaration.{Declaration}
use Rattle.pram_trees.specs.declared.tree.Prefix.TheVariants as prefix
use Rattle.pram_trees.specs.declared.tree.Expr.{Expr}
use Rattle.pram_trees.specs.declared.tree.Expr.TheVariants as e
use Rattle.pram_trees.specs.declared.tree.Stmt.{Stmt}
use Rattle.pram_trees.specs.Grammar.{tokens, step_tokens, chain, joins, AreSteps, IsShort, chained, compared, number, name, element, paren}
use Rattle.pram_trees.specs.Grammar.{minus, atom, not, comparison, Fits, Further}
use Rattle.pram_trees.specs.Blocks.{statement_tokens, block_tokens, local_tokens, IsStatement, IsFurtherBlock, IsBlock}
use Rattle.pram_trees.specs.Program.{rule_token, declaration_tokens, declarations_tokens}
use Rattle.pram_trees.specs.Symbols.{Stack, Symbol, Operand, Rest, Subscript, Want, WantRule, WantName, WantNumber, WantAtMost}
use Rattle.pram_trees.specs.Symbols.{Declarations, AfterShared, Statements, AfterName, ForHead, ForName, Else, Locals, Move, Next, Refused}
use Rattle.pram_trees.specs.Symbols.{TooDeep, enter, enter_atom, enter_unary, enter_term, enter_sum, enter_comparison, enter_negation}
use Rattle.pram_trees.specs.Symbols.{enter_conjunction, enter_expression, tighter, again, at_rest, at_subscript, at_at_most}
use Rattle.pram_trees.proofs.ExprTokens.{tokens-Number, tokens-Name, tokens-Element, tokens-Paren, tokens-Prefix, tokens-chain}

-- a comparison has one operator at most
abbrev pub HasRoom : Level → List (Binary × Expr) → Type 0
HasRoom level.Comparison rest = IsShort rest
HasRoom _ rest = Unit {0}

-- the tokens that a thing that is expected may turn out to be
abbrev pub Becomes : Symbol → List Token → Type 0
Becomes (Operand l d) ts = (x : Expr) × Fits d l x × (ts ≡ tokens x)
Becomes (Rest l d) ts = (rest : List (Binary × Expr)) × AreSteps l (Fits d (tighter l)) rest × HasRoom l rest × (ts ≡ step_tokens rest)
Becomes (Subscript d) ts = (ts ≡ [])
    ⊎ ((i : Expr) × Further d level.Expression i × (ts ≡ token.Mark mark.OpenBracket ∷ (tokens i ++ token.Mark mark.CloseBracket ∷ [])))
Becomes (Want m) ts = ts ≡ token.Mark m ∷ []
Becomes WantRule ts = (r : Rule) × (at : Location) × (ts ≡ rule_token r at ∷ [])
Becomes WantName ts = (x : Name) × (ts ≡ token.Name x ∷ [])
Becomes WantNumber ts = (n : Numeral) × (ts ≡ token.Number n ∷ [])
Becomes WantAtMost ts = ts ≡ token.Binary op.AtMost ∷ []
Becomes Declarations ts = (xs : List Declaration) × (ts ≡ declarations_tokens xs)
Becomes AfterShared ts = (x : Name) → (y : Declaration) × (token.Mark mark.Shared ∷ (token.Name x ∷ ts) ≡ declaration_tokens y)
Becomes (Statements b d) ts = (body : List Stmt) × IsBlock b d body × (ts ≡ block_tokens body)
Becomes (AfterName b d) ts = (x : Name) → (st : Stmt) × IsStatement d (IsFurtherBlock b d) st × (token.Name x ∷ ts ≡ statement_tokens st)
Becomes (ForHead b d) ts = (at : Location) → (st : Stmt) × IsStatement d (IsBlock b d) st
    × (token.Opening opening.For at ∷ ts ≡ statement_tokens st)
Becomes (ForName b d) ts = (at : Location) (x : Name) → (st : Stmt) × IsStatement d (IsBlock b d) st
    × (token.Opening opening.For at ∷ (token.Name x ∷ ts) ≡ statement_tokens st)
Becomes (Else b d) ts = (ts ≡ []) ⊎ ((body : List Stmt) × IsBlock b d body × (ts ≡ token.Mark mark.Else ∷ block_tokens body))
Becomes Locals ts = (xs : List Name) × (ts ≡ local_tokens xs)

abbrev pub Covers : Stack → List Token → Type 0
Covers [] ts = ts ≡ []
Covers (s ∷ k) ts = (a : List Token) × (b : List Token) × (ts ≡ a ++ b) × Becomes s a × Covers k b

abbrev pub Covered : Move → List Token → Type 0
Covered (Next k) ts = Covers k ts
Covered Refused ts = ⊥
Covered TooDeep ts = ⊥

-- an inner expression and the mark behind it
pub inside : (m : Mark) (d : ℕ) (k : Stack) (ts : List Token) → Covers (Operand level.Expression d ∷ (Want m ∷ k)) ts →
    (i : Expr) × (b : List Token) × Fits d level.Expression i × (ts ≡ (tokens i ++ token.Mark m ∷ []) ++ b) × Covers k b
inside m d k ts (a, b, whole, (i, h, is), (c, r, tail, closes, rest)) = (
  i,
  r,
  h,
  whole ∙ ap (λ l. l ++ b) is ∙ ap (λ l. tokens i ++ l) (tail ∙ ap (λ l. l ++ r) closes)
      ∙ sym (append_assoc (tokens i) (token.Mark m ∷ []) r),
  rest,
)

atom_back : (d : ℕ) (t : Token) (k : Stack) (ts : List Token) → Covered (enter_atom d t k) ts → Covers (Operand level.Atom d ∷ k) (t ∷ ts)
atom_back d (token.Number n) k ts h = (token.Number n ∷ [], ts, refl, (e.Number n, number n, sym (tokens-Number n)), h)
atom_back d (token.Name x) k ts (a, b, whole, inl none, h) =
    (token.Name x ∷ [], ts, refl, (e.Name x, name x, sym (tokens-Name x)), subst (Covers k) (sym (whole ∙ ap (λ l. l ++ b) none)) h)
atom_back d (token.Name x) k ts (a, b, whole, inr (i, hi, is), h) = (
  token.Name x ∷ a,
  b,
  ap (λ l. token.Name x ∷ l) whole,
  (
    e.Element x i,
    element x i hi,
    ap (λ l. token.Name x ∷ l) is
        ∙ sym (tokens-Element x i),
  ),
  h,
)
atom_back zero (token.Mark mark.OpenParen) k ts h = absurd h
atom_back (suc d) (token.Mark mark.OpenParen) k ts h =
    let w = inside mark.CloseParen d k ts h in (
      token.Mark mark.OpenParen ∷ (tokens w.0 ++ token.Mark mark.CloseParen ∷ []),
      w.1,
      ap (λ l. token.Mark mark.OpenParen ∷ l) w.3,
      (e.Paren w.0, paren w.0 w.2, sym (tokens-Paren w.0)),
      w.4,
    )
atom_back d t k ts h = absurd h

loosen : (l m : Level) (d : ℕ) (k : Stack) (ts : List Token) → ((x : Expr) → Fits d l x → Fits d m x) → Covers (Operand l d ∷ k) ts →
    Covers (Operand m d ∷ k) ts
loosen l m d k ts f (a, b, whole, (x, h, is), rest) = (a, b, whole, (x, f x h, is), rest)

unary_back : (d : ℕ) (t : Token) (k : Stack) (ts : List Token) → Covered (enter_unary d t k) ts → Covers (Operand level.Unary d ∷ k)
    (t ∷ ts)
unary_back zero (token.Binary op.Subtract) k ts h = absurd h
unary_back (suc d) (token.Binary op.Subtract) k ts (a, b, whole, (i, h, is), rest) = (
  token.Binary op.Subtract ∷ a,
  b,
  ap (λ l. token.Binary op.Subtract ∷ l) whole,
  (e.Prefix prefix.Negate i, minus i h, ap (λ l. token.Binary op.Subtract ∷ l) is ∙ sym (tokens-Prefix prefix.Negate i)),
  rest,
)
unary_back d t k ts h = loosen level.Atom level.Unary d k (t ∷ ts) (λ x a. atom a) (atom_back d t k ts h)

-- an operand and the operators behind it are a chain
merge : (l : Level) (d : ℕ) (k : Stack) (ts : List Token) →
    ((first : Expr) (rest : List (Binary × Expr)) → Fits d (tighter l) first → AreSteps l (Fits d (tighter l)) rest → HasRoom l rest →
    Fits d l (chain first rest)) →
    Covers (Operand (tighter l) d ∷ (Rest l d ∷ k)) ts → Covers (Operand l d ∷ k) ts
merge l d k ts fits (a, b, whole, (f, hf, is), (c, r, tail, (rest, steps, room, are), more)) = (
  tokens f ++ step_tokens rest,
  r,
  whole ∙ ap (λ v. v ++ b) is ∙ ap (λ v. tokens f ++ v) (tail ∙ ap (λ v. v ++ r) are) ∙ sym (append_assoc (tokens f) (step_tokens rest) r),
  (chain f rest, fits f rest hf steps room, sym (tokens-chain f rest)),
  more,
)

term_back : (d : ℕ) (t : Token) (k : Stack) (ts : List Token) → Covered (enter_term d t k) ts → Covers (Operand level.Term d ∷ k) (t ∷ ts)
term_back d t k ts h = merge level.Term d k (t ∷ ts) (λ f r hf hr room. chained f r hf hr) (unary_back d t (Rest level.Term d ∷ k) ts h)

pub sum_back : (d : ℕ) (t : Token) (k : Stack) (ts : List Token) → Covered (enter_sum d t k) ts → Covers (Operand level.Sum d ∷ k) (t ∷ ts)
sum_back d t k ts h = merge level.Sum d k (t ∷ ts) (λ f r hf hr room. chained f r hf hr) (term_back d t (Rest level.Sum d ∷ k) ts h)

comparison_back : (d : ℕ) (t : Token) (k : Stack) (ts : List Token) → Covered (enter_comparison d t k) ts →
    Covers (Operand level.Comparison d ∷ k) (t ∷ ts)
comparison_back d t k ts h = merge level.Comparison d k (t ∷ ts) (λ f r hf hr room. compared f r hf hr room)
    (sum_back d t (Rest level.Comparison d ∷ k) ts h)

negation_back : (d : ℕ) (t : Token) (k : Stack) (ts : List Token) → Covered (enter_negation d t k) ts →
    Covers (Operand level.Negation d ∷ k) (t ∷ ts)
negation_back zero token.Not k ts h = absurd h
negation_back (suc d) token.Not k ts (a, b, whole, (i, h, is), rest) = (
  token.Not ∷ a,
  b,
  ap (λ l. token.Not ∷ l) whole,
  (
    e.Prefix prefix.Not i,
    not i h,
    ap (λ l. token.Not ∷ l) is
        ∙ sym (tokens-Prefix prefix.Not i),
  ),
  rest,
)
negation_back d t k ts h = loosen level.Comparison level.Negation d k (t ∷ ts) (λ x c. comparison c) (comparison_back d t k ts h)

conjunction_back : (d : ℕ) (t : Token) (k : Stack) (ts : List Token) → Covered (enter_conjunction d t k) ts →
    Covers (Operand level.Conjunction d ∷ k) (t ∷ ts)
conjunction_back d t k ts h = merge level.Conjunction d k (t ∷ ts) (λ f r hf hr room. chained f r hf hr)
    (negation_back d t (Rest level.Conjunction d ∷ k) ts h)

expression_back : (d : ℕ) (t : Token) (k : Stack) (ts : List Token) → Covered (enter_expression d t k) ts →
    Covers (Operand level.Expression d ∷ k) (t ∷ ts)
expression_back d t k ts h = merge level.Expression d k (t ∷ ts) (λ f r hf hr room. chained f r hf hr)
    (conjunction_back d t (Rest level.Expression d ∷ k) ts h)

pub enter_back : (l : Level) (d : ℕ) (t : Token) (k : Stack) (ts : List Token) → Covered (enter l d t k) ts → Covers (Operand l d ∷ k)
    (t ∷ ts)
unfolding enter
enter_back level.Expression = expression_back
enter_back level.Conjunction = conjunction_back
enter_back level.Negation = negation_back
enter_back level.Comparison = comparison_back
enter_back level.Sum = sum_back
enter_back level.Term = term_back
enter_back level.Unary = unary_back
enter_back level.Atom = atom_back

-- an operator, its operand, and what follows
pub operator_back : (l : Level) (d : ℕ) (o : Binary) (k : Stack) (ts : List Token) → joins l o ≡ true →
    Covers (Operand (tighter l) d ∷ again l d k) ts →
    Covers (Rest l d ∷ k) (token.Binary o ∷ ts)
operator_back level.Comparison d o k ts joined (a, b, whole, (x, h, is), rest) = (
  token.Binary o ∷ (a ++ []),
  b,
  ap (λ v. token.Binary o ∷ v) (whole ∙ ap (λ v. v ++ b) (sym (append-nil a))),
  ((o, x) ∷ [], (joined, h, tt), tt, ap (λ v. token.Binary o ∷ (v ++ [])) is),
  rest,
)
operator_back l d o k ts joined (a, b, whole, (x, h, is), (c, r, tail, (more, steps, room, are), rest)) = (
  token.Binary o ∷ (a ++ c),
  r,
  ap (λ v. token.Binary o ∷ v) (whole ∙ ap (λ v. a ++ v) tail ∙ sym (append_assoc a c r)),
  ((o, x) ∷ more, (joined, h, steps), tt, ap (λ v. token.Binary o ∷ (v ++ c)) is ∙ ap (λ v. token.Binary o ∷ (tokens x ++ v)) are),
  rest,
)

pub no_steps : (l : Level) → HasRoom l []
no_steps level.Comparison = tt
no_steps l = tt

-- symbols of an expression, where the token may also belong to what comes behind

pub subscript_back : (d : ℕ) (t : Token) (k : Stack) (other : Move) (ts : List Token) → (Covered other ts → Covers k (t ∷ ts)) →
    Covered (at_subscript d t k other) ts → Covers (Subscript d ∷ k) (t ∷ ts)
subscript_back zero (token.Mark mark.OpenBracket) k other ts pop h = absurd h
subscript_back (suc d) (token.Mark mark.OpenBracket) k other ts pop h =
    let w = inside mark.CloseBracket d k ts h in (
      token.Mark mark.OpenBracket ∷ (tokens w.0 ++ token.Mark mark.CloseBracket ∷ []),
      w.1,
      ap (λ l. token.Mark mark.OpenBracket ∷ l) w.3,
      inr (w.0, w.2, refl),
      w.4,
    )
subscript_back d t k other ts pop h = ([], t ∷ ts, refl, inl refl, pop h)

pub rest_back : (l : Level) (d : ℕ) (t : Token) (k : Stack) (other : Move) (ts : List Token) → (Covered other ts → Covers k (t ∷ ts)) →
    Covered (at_rest l d t k other) ts → Covers (Rest l d ∷ k) (t ∷ ts)
rest_back l d (token.Binary o) k other ts pop h = by (joins l o) refl h
  where
    by : (c : Bool) → joins l o ≡ c → Covered (if c then Next (Operand (tighter l) d ∷ again l d k) else other) ts → Covers (Rest l d ∷ k)
        (token.Binary o ∷ ts)
    by true joined h = operator_back l d o k ts joined h
    by false never h = ([], token.Binary o ∷ ts, refl, ([], tt, no_steps l, refl), pop h)
rest_back l d t k other ts pop h = ([], t ∷ ts, refl, ([], tt, no_steps l, refl), pop h)

pub at_most_back : (t : Token) (k : Stack) (ts : List Token) → Covered (at_at_most t k Refused) ts → Covers (WantAtMost ∷ k) (t ∷ ts)
at_most_back (token.Binary op.AtMost) k ts h = (token.Binary op.AtMost ∷ [], ts, refl, refl, h)
at_most_back t k ts h = absurd h
