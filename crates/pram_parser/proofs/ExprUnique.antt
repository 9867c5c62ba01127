-- No list of tokens stands for two expressions.
use Rattle.std.proofs.Common.{◌≡◌, ℕ, zero, suc, Bool, true, false, true≢false, List, [], ◌∷◌, ◌++◌, refl, sym, ap, ◌∙◌, append_assoc}
use Rattle.pram_tokens.specs.declared.token.Binary.{Binary}
use Rattle.pram_tokens.specs.declared.token.Mark.{Mark}
use Rattle.pram_tokens.specs.declared.token.Mark.TheVariants as mark
use Rattle.pram_tokens.specs.declared.token.Token.{Token}
use Rattle.pram_tokens.specs.declared.token.Token.TheVariants as token
use Rattle.pram_trees.specs.declared.tree.Prefix.TheVariants as prefix
use Rattle.pram_trees.specs.declared.level.Level.{Level}
use Rattle.pram_trees.specs.declared.level.Level.TheVariants as level
use Rattle.pram_trees.specs.declared.tree.Expr.{Expr}
use Rattle.pram_trees.specs.declared.tree.Expr.TheVariants as e
use Rattle.pram_trees.specs.Grammar.{tokens, step_tokens, chain, joins, AreSteps, Chained, chained, Compared, compared, IsAtom, number}
use Rattle.pram_trees.specs.Grammar.{name, element, paren, IsUnary, minus, atom, IsTerm, IsSum, IsComparison, IsNegation, not, comparison}
use Rattle.pram_trees.specs.Grammar.{IsConjunction, IsExpression, IsAt, Fits, Further}
use Rattle.pram_trees.specs.Symbols.{tighter, is_operator, is_subscript}
use Rattle.pram_trees.proofs.ExprTokens.{tokens-Number, tokens-Name, tokens-Element, tokens-Paren, tokens-Prefix, tokens-chain}
use Rattle.pram_parser.proofs.ExprReading.{Stops, StopsAt, mark_stops, is_not, comparison_begins, term_operator, sum_operator}
use Rattle.pram_parser.proofs.ExprReading.{comparison_operator, conjunction_operator, expression_operator}

-- two expressions with the same tokens before an end are one
abbrev pub Same : Level → Expr → Expr → Type 0
Same l x y = (xs ys : List Token) → StopsAt l xs → StopsAt l ys → tokens x ++ xs ≡ tokens y ++ ys → (x ≡ y) × (xs ≡ ys)

fronts : {v w a b : List Token} (xs ys : List Token) → v ≡ a → w ≡ b → v ++ xs ≡ w ++ ys → a ++ xs ≡ b ++ ys
fronts xs ys p q same = sym (ap (λ l. l ++ xs) p) ∙ same ∙ ap (λ l. l ++ ys) q

no_subscript : (xs ys : List Token) → StopsAt level.Atom xs → xs ≡ token.Mark mark.OpenBracket ∷ ys → ⊥
no_subscript [] ys never same = never
no_subscript (t ∷ ts) ys stop same = let is : t ≡ token.Mark mark.OpenBracket = cc in true≢false (sym (ap is_subscript is) ∙ stop)

-- operands of a chain

module _ (l : Level) (P Q : Expr → Type 0)
    (operands : (x y : Expr) → P x → Q y → Same (tighter l) x y)
    (stops : (t : Token) → Stops l t → (is_operator l t ≡ false) × Stops (tighter l) t)
    (op_stops : (o : Binary) → joins l o ≡ true → Stops (tighter l) (token.Binary o)) where
  steps_stop : (R : Expr → Type 0) (rest : List (Binary × Expr)) (ys : List Token) → AreSteps l R rest → StopsAt l ys → StopsAt (tighter l)
      (step_tokens rest ++ ys)
  steps_stop R [] [] h never = never
  steps_stop R [] (y ∷ ys) h stop = (stops y stop).1
  steps_stop R (s ∷ rest) ys h stop = op_stops s.0 h.0

  no_step : (xs ys : List Token) (o : Binary) → StopsAt l xs → joins l o ≡ true → xs ≡ token.Binary o ∷ ys → ⊥
  no_step [] ys o never h same = never
  no_step (t ∷ ts) ys o stop h same =
      let is : t ≡ token.Binary o = cc in
      true≢false (sym h ∙ sym (ap (is_operator l) is) ∙ (stops t stop).0)

  same_steps : (r s : List (Binary × Expr)) → AreSteps l P r → AreSteps l Q s → (xs ys : List Token) → StopsAt l xs → StopsAt l ys →
      step_tokens r ++ xs ≡ step_tokens s ++ ys → (r ≡ s) × (xs ≡ ys)
  same_steps [] [] hr hs xs ys p q same = (refl, same)
  same_steps [] (b ∷ s) hr hs xs ys p q same = absurd (no_step xs _ b.0 p hs.0 same)
  same_steps (a ∷ r) [] hr hs xs ys p q same = absurd (no_step ys _ a.0 q hr.0 (sym same))
  same_steps (a ∷ r) (b ∷ s) hr hs xs ys p q same =
      let operator : a.0 ≡ b.0 = cc in
      let behind : (tokens a.1 ++ step_tokens r) ++ xs ≡ (tokens b.1 ++ step_tokens s) ++ ys = cc in
      let regrouped = sym (append_assoc (tokens a.1) (step_tokens r) xs) ∙ behind ∙ append_assoc (tokens b.1) (step_tokens s) ys in
      let one = operands a.1 b.1 hr.1 hs.1 (step_tokens r ++ xs) (step_tokens s ++ ys) (steps_stop P r xs hr.2 p) (steps_stop Q s ys hs.2 q)
      regrouped in
      let more = same_steps r s hr.2 hs.2 xs ys p q one.1 in
      let step : a ≡ b = ap (λ o. let z : Binary × Expr = (o, a.1) in z) operator ∙ ap (λ x. let z : Binary × Expr = (b.0, x) in z) one.0 in
      (ap (λ z. z ∷ r) step ∙ ap (λ z. b ∷ z) more.0, more.1)

  same_chained : (x y : Expr) → Chained l P x → Chained l Q y → Same l x y
  same_chained _ _ (chained f r hf hr) (chained g s hg hs) xs ys p q same =
      let whole = fronts xs ys (tokens-chain f r) (tokens-chain g s) same in
      let regrouped = sym (append_assoc (tokens f) (step_tokens r) xs) ∙ whole ∙ append_assoc (tokens g) (step_tokens s) ys in
      let one = operands f g hf hg (step_tokens r ++ xs) (step_tokens s ++ ys) (steps_stop P r xs hr p) (steps_stop Q s ys hs q)
      regrouped in
      let more = same_steps r s hr hs xs ys p q one.1 in
      (ap (λ z. chain z r) one.0 ∙ ap (chain g) more.0, more.1)

as_chain : {l : Level} {P : Expr → Type 0} {x : Expr} → Compared l P x → Chained l P x
as_chain (compared f r hf hr short) = chained f r hf hr

-- an atom does not begin with a sign

abbrev is_minus : Token → Bool
is_minus (token.Binary o) = true
is_minus _ = false

unsigned : {Inner : Level → Expr → Type 0} {x : Expr} → IsAtom Inner x → (h : Token) × (r : List Token) × (tokens x ≡ h ∷ r)
    × (is_minus h ≡ false)
unsigned (number n) = (_, _, tokens-Number n, refl)
unsigned (name x) = (_, _, tokens-Name x, refl)
unsigned (element x i h) = (_, _, tokens-Element x i, refl)
unsigned (paren i h) = (_, _, tokens-Paren i, refl)

no_head : (test : Token → Bool) (h g : Token) (xs ys : List Token) → test h ≡ true → test g ≡ false → h ∷ xs ≡ g ∷ ys → ⊥
no_head test h g xs ys holds fails same = let is : h ≡ g = cc in true≢false (sym holds ∙ ap test is ∙ fails)

module _ (I J : Level → Expr → Type 0) (inner : (l : Level) (x y : Expr) → I l x → J l y → Same l x y) where
  between : (m : Mark) → is_subscript (token.Mark m) ≡ false → (x y : Expr) → I level.Expression x → J level.Expression y →
      (xs ys : List Token) →
      (tokens x ++ token.Mark m ∷ []) ++ xs ≡ (tokens y ++ token.Mark m ∷ []) ++ ys → (x ≡ y) × (xs ≡ ys)
  between m ends x y hx hy xs ys same =
      let stop = mark_stops m ends in
      let both = inner level.Expression x y hx hy (token.Mark m ∷ xs) (token.Mark m ∷ ys) stop stop
      (sym (append_assoc (tokens x) (token.Mark m ∷ []) xs) ∙ same ∙ append_assoc (tokens y) (token.Mark m ∷ []) ys) in
      let behind = both.1 in
      (both.0, cc)

  same_atom : (x y : Expr) → IsAtom I x → IsAtom J y → Same level.Atom x y
  same_atom _ _ (number n) (number m) xs ys p q same = let s = fronts xs ys (tokens-Number n) (tokens-Number m) same in let v : n ≡ m =
      cc in (ap e.Number v, cc)
  same_atom _ _ (number n) (name y) xs ys p q same = let s = fronts xs ys (tokens-Number n) (tokens-Name y) same in absurd cc
  same_atom _ _ (number n) (element y j h) xs ys p q same = let s = fronts xs ys (tokens-Number n) (tokens-Element y j) same in absurd cc
  same_atom _ _ (number n) (paren j h) xs ys p q same = let s = fronts xs ys (tokens-Number n) (tokens-Paren j) same in absurd cc
  same_atom _ _ (name x) (number m) xs ys p q same = let s = fronts xs ys (tokens-Name x) (tokens-Number m) same in absurd cc
  same_atom _ _ (name x) (name y) xs ys p q same = let s = fronts xs ys (tokens-Name x) (tokens-Name y) same in let v : x ≡ y = cc in
      (ap e.Name v, cc)
  same_atom _ _ (name x) (element y j h) xs ys p q same = let s = fronts xs ys (tokens-Name x) (tokens-Element y j) same in
      absurd (no_subscript xs ((tokens j ++ token.Mark mark.CloseBracket ∷ []) ++ ys) p cc)
  same_atom _ _ (name x) (paren j h) xs ys p q same = let s = fronts xs ys (tokens-Name x) (tokens-Paren j) same in absurd cc
  same_atom _ _ (element x i h) (number m) xs ys p q same = let s = fronts xs ys (tokens-Element x i) (tokens-Number m) same in absurd cc
  same_atom _ _ (element x i h) (name y) xs ys p q same = let s = fronts xs ys (tokens-Element x i) (tokens-Name y) same in
      absurd (no_subscript ys ((tokens i ++ token.Mark mark.CloseBracket ∷ []) ++ xs) q cc)
  same_atom _ _ (element x i h) (element y j g) xs ys p q same =
      let s = fronts xs ys (tokens-Element x i) (tokens-Element y j) same in
      let v : x ≡ y = cc in
      let b = between mark.CloseBracket refl i j h g xs ys cc in
      (ap (λ z. e.Element z i) v ∙ ap (e.Element y) b.0, b.1)
  same_atom _ _ (element x i h) (paren j g) xs ys p q same = let s = fronts xs ys (tokens-Element x i) (tokens-Paren j) same in absurd cc
  same_atom _ _ (paren i h) (number m) xs ys p q same = let s = fronts xs ys (tokens-Paren i) (tokens-Number m) same in absurd cc
  same_atom _ _ (paren i h) (name y) xs ys p q same = let s = fronts xs ys (tokens-Paren i) (tokens-Name y) same in absurd cc
  same_atom _ _ (paren i h) (element y j g) xs ys p q same = let s = fronts xs ys (tokens-Paren i) (tokens-Element y j) same in absurd cc
  same_atom _ _ (paren i h) (paren j g) xs ys p q same =
      let s = fronts xs ys (tokens-Paren i) (tokens-Paren j) same in
      let b = between mark.CloseParen refl i j h g xs ys cc in
      (ap e.Paren b.0, b.1)

  same_unary : (x y : Expr) → IsUnary I x → IsUnary J y → Same level.Unary x y
  same_unary _ _ (minus i h) (minus j g) xs ys p q same =
      let s = fronts xs ys (tokens-Prefix prefix.Negate i) (tokens-Prefix prefix.Negate j) same in
      let b = inner level.Unary i j h g xs ys p q cc in
      (ap (e.Prefix prefix.Negate) b.0, b.1)
  same_unary _ y (minus i h) (atom g) xs ys p q same =
      let u = unsigned g in absurd (no_head is_minus _ _ _ _ refl u.3 (fronts xs ys (tokens-Prefix prefix.Negate i) u.2 same))
  same_unary x _ (atom h) (minus j g) xs ys p q same =
      let u = unsigned h in absurd (no_head is_minus _ _ _ _ refl u.3 (sym (fronts xs ys u.2 (tokens-Prefix prefix.Negate j) same)))
  same_unary x y (atom h) (atom g) xs ys p q same = same_atom x y h g xs ys p q same

  same_term : (x y : Expr) → IsTerm I x → IsTerm J y → Same level.Term x y
  same_term = same_chained level.Term (IsUnary I) (IsUnary J) same_unary (λ t s. s) term_operator

  same_sum : (x y : Expr) → IsSum I x → IsSum J y → Same level.Sum x y
  same_sum = same_chained level.Sum (IsTerm I) (IsTerm J) same_term (λ t s. s) sum_operator

  same_comparison : (x y : Expr) → IsComparison I x → IsComparison J y → Same level.Comparison x y
  same_comparison x y h g = same_chained level.Comparison (IsSum I) (IsSum J) same_sum (λ t s. s) comparison_operator x y (as_chain h)
      (as_chain g)

  same_negation : (x y : Expr) → IsNegation I x → IsNegation J y → Same level.Negation x y
  same_negation _ _ (not i h) (not j g) xs ys p q same =
      let s = fronts xs ys (tokens-Prefix prefix.Not i) (tokens-Prefix prefix.Not j) same in
      let b = inner level.Negation i j h g xs ys p q cc in
      (ap (e.Prefix prefix.Not) b.0, b.1)
  same_negation _ y (not i h) (comparison g) xs ys p q same =
      let u = comparison_begins g in absurd (no_head is_not _ _ _ _ refl u.3 (fronts xs ys (tokens-Prefix prefix.Not i) u.2 same))
  same_negation x _ (comparison h) (not j g) xs ys p q same =
      let u = comparison_begins h in absurd (no_head is_not _ _ _ _ refl u.3 (sym (fronts xs ys u.2 (tokens-Prefix prefix.Not j) same)))
  same_negation x y (comparison h) (comparison g) xs ys p q same = same_comparison x y h g xs ys p q same

  same_conjunction : (x y : Expr) → IsConjunction I x → IsConjunction J y → Same level.Conjunction x y
  same_conjunction = same_chained level.Conjunction (IsNegation I) (IsNegation J) same_negation (λ t s. s) conjunction_operator

  same_expression : (x y : Expr) → IsExpression I x → IsExpression J y → Same level.Expression x y
  same_expression = same_chained level.Expression (IsConjunction I) (IsConjunction J) same_conjunction (λ t s. s) expression_operator

  same_at : (l : Level) (x y : Expr) → IsAt I l x → IsAt J l y → Same l x y
  same_at level.Expression = same_expression
  same_at level.Conjunction = same_conjunction
  same_at level.Negation = same_negation
  same_at level.Comparison = same_comparison
  same_at level.Sum = same_sum
  same_at level.Term = same_term
  same_at level.Unary = same_unary
  same_at level.Atom = same_atom

pub same : (d c : ℕ) (l : Level) (x y : Expr) → Fits d l x → Fits c l y → Same l x y
same zero zero = same_at (Further zero) (Further zero) (λ l x y never h. absurd never)
same zero (suc c) = same_at (Further zero) (Further (suc c)) (λ l x y never h. absurd never)
same (suc d) zero = same_at (Further (suc d)) (Further zero) (λ l x y h never. absurd never)
same (suc d) (suc c) = same_at (Further (suc d)) (Further (suc c)) (same d c)
