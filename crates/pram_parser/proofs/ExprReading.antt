-- The machine reads each expression of the grammar to its end.
use Rattle.std.proofs.Common.{◌≡◌, ℕ, zero, suc, Bool, true, false, List, [], ◌∷◌, ◌++◌, refl, sym, ap, ◌∙◌, append_assoc}
use Rattle.pram_tokens.specs.declared.token.Binary.{Binary}
use Rattle.pram_tokens.specs.declared.token.Binary.TheVariants as op
use Rattle.pram_tokens.specs.declared.token.Mark.{Mark}
use Rattle.pram_tokens.specs.declared.token.Mark.TheVariants as mark
use Rattle.pram_tokens.specs.declared.token.Numeral.{Numeral}
use Rattle.pram_tokens.specs.declared.token.Token.{Token}
use Rattle.pram_tokens.specs.declared.token.Token.TheVariants as token
use Rattle.pram_trees.specs.declared.tree.Prefix.TheVariants as prefix
use Rattle.pram_trees.specs.declared.level.Level.{Level}
use Rattle.pram_trees.specs.declared.level.Level.TheVariants as level
use Rattle.pram_trees.specs.declared.tree.Expr.{Expr}
use Rattle.pram_trees.specs.Grammar.{tokens, step_tokens, chain, joins, AreSteps, IsShort, Chained, chained, Compared, compared, IsAtom}
use Rattle.pram_trees.specs.Grammar.{number, name, element, paren, IsUnary, minus, atom, IsTerm, IsSum, IsComparison, IsNegation, not}
use Rattle.pram_trees.specs.Grammar.{comparison, IsConjunction, IsExpression, IsAt, Fits, Further}
use Rattle.pram_trees.specs.Machine.{verdict}
use Rattle.pram_trees.specs.Symbols.{Stack, Operand, Rest, Subscript, Want, enter, enter_atom, tighter, again, is_operator, is_subscript}
use Rattle.pram_trees.proofs.ExprTokens.{tokens-Number, tokens-Name, tokens-Element, tokens-Paren, tokens-Prefix, tokens-chain}

-- A token that cannot go on with an expression of that line.

abbrev pub StopsAtom : Token → Type 0
StopsAtom t = is_subscript t ≡ false

abbrev pub StopsTerm : Token → Type 0
StopsTerm t = (is_operator level.Term t ≡ false) × StopsAtom t

abbrev pub StopsSum : Token → Type 0
StopsSum t = (is_operator level.Sum t ≡ false) × StopsTerm t

abbrev pub StopsComparison : Token → Type 0
StopsComparison t = (is_operator level.Comparison t ≡ false) × StopsSum t

abbrev pub StopsConjunction : Token → Type 0
StopsConjunction t = (is_operator level.Conjunction t ≡ false) × StopsComparison t

abbrev pub StopsExpression : Token → Type 0
StopsExpression t = (is_operator level.Expression t ≡ false) × StopsConjunction t

abbrev pub Stops : Level → Token → Type 0
Stops level.Expression = StopsExpression
Stops level.Conjunction = StopsConjunction
Stops level.Negation = StopsComparison
Stops level.Comparison = StopsComparison
Stops level.Sum = StopsSum
Stops level.Term = StopsTerm
Stops level.Unary = StopsAtom
Stops level.Atom = StopsAtom

-- a list that begins with such a token
abbrev pub StopsAt : Level → List Token → Type 0
StopsAt l [] = ⊥
StopsAt l (t ∷ ts) = Stops l t

abbrev pub Reads : ℕ → Level → Expr → Type 0
Reads d l x = (k : Stack) (ys : List Token) → StopsAt l ys → verdict (tokens x ++ ys) (Operand l d ∷ k) ≡ verdict ys k

-- an inner expression, one level further in
abbrev ReadsInner : ℕ → Level → Expr → Type 0
ReadsInner d l x = (i : ℕ) × (d ≡ suc i) × Reads i l x

-- the first token, which is no `not`
abbrev pub is_not : Token → Bool
is_not token.Not = true
is_not _ = false

abbrev pub Begins : Expr → Type 0
Begins x = (h : Token) × (r : List Token) × (tokens x ≡ h ∷ r) × (is_not h ≡ false)

pub mark_stops : (m : Mark) → is_subscript (token.Mark m) ≡ false → Stops level.Expression (token.Mark m)
mark_stops m h = (refl, (refl, (refl, (refl, (refl, h)))))

pass_subscript : (d : ℕ) (k : Stack) (ys : List Token) → StopsAt level.Atom ys → verdict ys (Subscript d ∷ k) ≡ verdict ys k
pass_subscript d k [] never = absurd never
pass_subscript d k (t ∷ ts) stop = rw stop

module _ (d : ℕ) (l : Level) (IsOperand : Expr → Type 0)
    (opens : (t : Token) (k : Stack) → enter l d t k ≡ enter (tighter l) d t (Rest l d ∷ k))
    (reads_operand : (x : Expr) → IsOperand x → Reads d (tighter l) x)
    (stops : (t : Token) → Stops l t → (is_operator l t ≡ false) × Stops (tighter l) t)
    (op_stops : (o : Binary) → joins l o ≡ true → Stops (tighter l) (token.Binary o)) where
  widen : (xs ys : List Token) (k : Stack) → StopsAt l ys → verdict (xs ++ ys) (Operand l d ∷ k) ≡ verdict (xs ++ ys)
      (Operand (tighter l) d ∷ (Rest l d ∷ k))
  widen [] [] k never = absurd never
  widen [] (y ∷ ys) k stop = rw (opens y k)
  widen (x ∷ xs) ys k stop = rw (opens x k)

  pass : (k : Stack) (ys : List Token) → StopsAt l ys → verdict ys (Rest l d ∷ k) ≡ verdict ys k
  pass k [] never = absurd never
  pass k (t ∷ ts) stop = rw (stops t stop).0

  steps_stop : (rest : List (Binary × Expr)) (ys : List Token) → AreSteps l IsOperand rest → StopsAt l ys → StopsAt (tighter l)
      (step_tokens rest ++ ys)
  steps_stop [] [] h never = never
  steps_stop [] (y ∷ ys) h stop = (stops y stop).1
  steps_stop (s ∷ rest) ys h stop = op_stops s.0 h.0

  read_first : (first : Expr) (rest : List (Binary × Expr)) → IsOperand first → AreSteps l IsOperand rest → (k : Stack) (ys : List Token) →
      StopsAt l ys →
      verdict (tokens (chain first rest) ++ ys) (Operand l d ∷ k) ≡ verdict (step_tokens rest ++ ys) (Rest l d ∷ k)
  read_first first rest one more k ys stop =
      ap (λ ts. verdict (ts ++ ys) (Operand l d ∷ k)) (tokens-chain first rest)
      ∙ widen (tokens first ++ step_tokens rest) ys k stop
      ∙ ap (λ ts. verdict ts (Operand (tighter l) d ∷ (Rest l d ∷ k))) (append_assoc (tokens first) (step_tokens rest) ys)
      ∙ reads_operand first one (Rest l d ∷ k) (step_tokens rest ++ ys) (steps_stop rest ys more stop)

  read_step : (s : Binary × Expr) (rest : List (Binary × Expr)) → AreSteps l IsOperand (s ∷ rest) → (k : Stack) (ys : List Token) →
      StopsAt l ys →
      verdict (step_tokens (s ∷ rest) ++ ys) (Rest l d ∷ k) ≡ verdict (step_tokens rest ++ ys) (again l d k)
  read_step s rest h k ys stop =
      rw h.0 (ap (λ ts. verdict ts (Operand (tighter l) d ∷ again l d k)) (append_assoc (tokens s.1) (step_tokens rest) ys)
      ∙ reads_operand s.1 h.1 (again l d k) (step_tokens rest ++ ys) (steps_stop rest ys h.2 stop))

  module _ (goes_on : (k : Stack) → again l d k ≡ Rest l d ∷ k) where
    read_rest : (rest : List (Binary × Expr)) → AreSteps l IsOperand rest → (k : Stack) (ys : List Token) → StopsAt l ys →
        verdict (step_tokens rest ++ ys) (Rest l d ∷ k) ≡ verdict ys k
    read_rest [] h k ys stop = pass k ys stop
    read_rest (s ∷ rest) h k ys stop =
        read_step s rest h k ys stop ∙ ap (verdict (step_tokens rest ++ ys)) (goes_on k) ∙ read_rest rest h.2 k ys stop

    read_chained : (x : Expr) → Chained l IsOperand x → Reads d l x
    read_chained _ (chained first rest one more) k ys stop =
        read_first first rest one more k ys stop ∙ read_rest rest more k ys stop

  module _ (ends : (k : Stack) → again l d k ≡ k) where
    read_short : (rest : List (Binary × Expr)) → AreSteps l IsOperand rest → IsShort rest → (k : Stack) (ys : List Token) → StopsAt l ys →
        verdict (step_tokens rest ++ ys) (Rest l d ∷ k) ≡ verdict ys k
    read_short [] h short k ys stop = pass k ys stop
    read_short (s ∷ []) h short k ys stop = read_step s [] h k ys stop ∙ ap (verdict ys) (ends k)
    read_short (s ∷ r ∷ rest) h never k ys stop = absurd never

    read_compared : (x : Expr) → Compared l IsOperand x → Reads d l x
    read_compared _ (compared first rest one more short) k ys stop =
        read_first first rest one more k ys stop ∙ read_short rest more short k ys stop

-- the first token of a line that has no `not` of its own

atom_begins : {Inner : Level → Expr → Type 0} {x : Expr} → IsAtom Inner x → Begins x
atom_begins (number n) = (_, _, tokens-Number n, refl)
atom_begins (name x) = (_, _, tokens-Name x, refl)
atom_begins (element x i h) = (_, _, tokens-Element x i, refl)
atom_begins (paren i h) = (_, _, tokens-Paren i, refl)

unary_begins : {Inner : Level → Expr → Type 0} {x : Expr} → IsUnary Inner x → Begins x
unary_begins (minus i h) = (_, _, tokens-Prefix prefix.Negate i, refl)
unary_begins (atom h) = atom_begins h

chain_begins : (first : Expr) (rest : List (Binary × Expr)) → Begins first → Begins (chain first rest)
chain_begins first rest b = (b.0, _, tokens-chain first rest ∙ ap (λ l. l ++ step_tokens rest) b.2, b.3)

pub comparison_begins : {Inner : Level → Expr → Type 0} {x : Expr} → IsComparison Inner x → Begins x
comparison_begins {Inner} (compared first rest one more short) = chain_begins first rest (sum one)
  where
    term : {y : Expr} → IsTerm Inner y → Begins y
    term (chained a b u s) = chain_begins a b (unary_begins u)

    sum : {y : Expr} → IsSum Inner y → Begins y
    sum (chained a b u s) = chain_begins a b (term u)

-- an operator of a line ends an operand of that line

pub term_operator : (o : Binary) → joins level.Term o ≡ true → StopsAtom (token.Binary o)
term_operator o h = refl

pub sum_operator : (o : Binary) → joins level.Sum o ≡ true → StopsTerm (token.Binary o)
sum_operator op.Or h = (cc, cc)
sum_operator o h = (cc, cc)

pub comparison_operator : (o : Binary) → joins level.Comparison o ≡ true → StopsSum (token.Binary o)
comparison_operator op.Or h = (cc, (cc, cc))
comparison_operator o h = (cc, (cc, cc))

pub conjunction_operator : (o : Binary) → joins level.Conjunction o ≡ true → StopsComparison (token.Binary o)
conjunction_operator op.Or h = (cc, (cc, (cc, cc)))
conjunction_operator o h = (cc, (cc, (cc, cc)))

pub expression_operator : (o : Binary) → joins level.Expression o ≡ true → StopsConjunction (token.Binary o)
expression_operator op.And h = (cc, (cc, (cc, (cc, cc))))
expression_operator o h = (cc, (cc, (cc, (cc, cc))))

-- no subscript, and no operator of a line below the one given
module _ (d : ℕ) (Inner : Level → Expr → Type 0) (reads_inner : (l : Level) (x : Expr) → Inner l x → ReadsInner d l x) where
  module _ (l : Level)
      (on_number : (n : Numeral) (k : Stack) → enter l d (token.Number n) k ≡ enter_atom d (token.Number n) k)
      (on_name : (x : _) (k : Stack) → enter l d (token.Name x) k ≡ enter_atom d (token.Name x) k)
      (on_paren : (k : Stack) → enter l d (token.Mark mark.OpenParen) k ≡ enter_atom d (token.Mark mark.OpenParen) k) where
    read_atom : (x : Expr) → IsAtom Inner x → (k : Stack) (ys : List Token) → StopsAt level.Atom ys → verdict (tokens x ++ ys)
        (Operand l d ∷ k) ≡ verdict ys k
    read_atom _ (number n) k ys stop = rw (tokens-Number n, on_number n k)
    read_atom _ (name x) k ys stop = rw (tokens-Name x, on_name x k) (pass_subscript d k ys stop)
    read_atom _ (element x i h) k ys stop =
        let r = reads_inner level.Expression i h in
        rw (tokens-Element x i, on_name x k, r.1, append_assoc (tokens i) (token.Mark mark.CloseBracket ∷ []) ys)
        (r.2 (Want mark.CloseBracket ∷ k) (token.Mark mark.CloseBracket ∷ ys) (mark_stops mark.CloseBracket refl))
    read_atom _ (paren i h) k ys stop =
        let r = reads_inner level.Expression i h in
        rw (tokens-Paren i, on_paren k, r.1, append_assoc (tokens i) (token.Mark mark.CloseParen ∷ []) ys)
        (r.2 (Want mark.CloseParen ∷ k) (token.Mark mark.CloseParen ∷ ys) (mark_stops mark.CloseParen refl))

  read_unary : (x : Expr) → IsUnary Inner x → Reads d level.Unary x
  unfolding enter
  read_unary _ (minus i h) k ys stop =
      let r = reads_inner level.Unary i h in
      rw (tokens-Prefix prefix.Negate i, r.1) (r.2 k ys stop)
  read_unary x (atom h) k ys stop = read_atom level.Unary (λ n k. refl) (λ x k. refl) (λ k. refl) x h k ys stop

  read_term : (x : Expr) → IsTerm Inner x → Reads d level.Term x
  unfolding enter
  read_term = read_chained d level.Term (IsUnary Inner) (λ t k. refl) read_unary (λ t s. s) term_operator (λ k. refl)

  read_sum : (x : Expr) → IsSum Inner x → Reads d level.Sum x
  unfolding enter
  read_sum = read_chained d level.Sum (IsTerm Inner) (λ t k. refl) read_term (λ t s. s) sum_operator (λ k. refl)

  read_comparison : (x : Expr) → IsComparison Inner x → Reads d level.Comparison x
  unfolding enter
  read_comparison = read_compared d level.Comparison (IsSum Inner) (λ t k. refl) read_sum (λ t s. s) comparison_operator (λ k. refl)

  read_negation : (x : Expr) → IsNegation Inner x → Reads d level.Negation x
  unfolding enter
  read_negation _ (not i h) k ys stop =
      let r = reads_inner level.Negation i h in
      rw (tokens-Prefix prefix.Not i, r.1) (r.2 k ys stop)
  read_negation x (comparison h) k ys stop =
      let b = comparison_begins h in
      ap (λ ts. verdict (ts ++ ys) (Operand level.Negation d ∷ k)) b.2
      ∙ passes b.0 b.3 (b.1 ++ ys) k
      ∙ sym (ap (λ ts. verdict (ts ++ ys) (Operand level.Comparison d ∷ k)) b.2)
      ∙ read_comparison x h k ys stop
    where
      passes : (t : Token) → is_not t ≡ false → (ts : List Token) (k : Stack) →
          verdict (t ∷ ts) (Operand level.Negation d ∷ k) ≡ verdict (t ∷ ts) (Operand level.Comparison d ∷ k)
      passes token.Not never ts k = cc
      passes t h ts k = refl

  read_conjunction : (x : Expr) → IsConjunction Inner x → Reads d level.Conjunction x
  unfolding enter
  read_conjunction = read_chained d level.Conjunction (IsNegation Inner) (λ t k. refl) read_negation (λ t s. s) conjunction_operator
      (λ k. refl)

  read_expression : (x : Expr) → IsExpression Inner x → Reads d level.Expression x
  unfolding enter
  read_expression = read_chained d level.Expression (IsConjunction Inner) (λ t k. refl) read_conjunction (λ t s. s) expression_operator
      (λ k. refl)

  read_at : (l : Level) (x : Expr) → IsAt Inner l x → Reads d l x
  unfolding enter
  read_at level.Expression = read_expression
  read_at level.Conjunction = read_conjunction
  read_at level.Negation = read_negation
  read_at level.Comparison = read_comparison
  read_at level.Sum = read_sum
  read_at level.Term = read_term
  read_at level.Unary = read_unary
  read_at level.Atom = read_atom level.Atom (λ n k. refl) (λ x k. refl) (λ k. refl)

pub read : (d : ℕ) (l : Level) (x : Expr) → Fits d l x → Reads d l x
read zero = read_at zero (Further zero) (λ l x never. absurd never)
read (suc d) = read_at (suc d) (Further (suc d)) (λ l x h. (d, refl, read d l x h))
