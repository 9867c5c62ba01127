-- What the machine refuses begins no sentence.
use Rattle.std.proofs.Common.{◌≡◌, ℕ, zero, suc, ◌+◌, ◌≤◌, Bool, true, false, List, [], ◌∷◌, ◌++◌, length, refl, sym, ap, ◌∙◌, subst, arith}
use Rattle.std.proofs.Common.{length-append, if◌then◌else◌}
use Rattle.pram_tokens.specs.declared.token.Binary.TheVariants as op
use Rattle.pram_tokens.specs.declared.token.Mark.{Mark}
use Rattle.pram_tokens.specs.declared.token.Mark.TheVariants as mark
use Rattle.pram_tokens.specs.declared.token.Opening.TheVariants as opening
use Rattle.pram_tokens.specs.declared.token.Token.{Token}
use Rattle.pram_tokens.specs.declared.token.Token.TheVariants as token
use Rattle.pram_trees.specs.declared.level.Level.{Level}
use Rattle.pram_trees.specs.declared.level.Level.TheVariants as level
use Rattle.pram_trees.specs.Machine.{step, verdict, on_move, Accepted, SyntaxAt, TooDeepAt, may_end}
use Rattle.pram_trees.specs.Symbols.{Stack, Symbol, Operand, Rest, Subscript, Want, WantRule, WantName, WantNumber, WantAtMost}
use Rattle.pram_trees.specs.Symbols.{Declarations, AfterShared, Statements, AfterName, ForHead, ForName, Else, Locals, Move, Next, Refused}
use Rattle.pram_trees.specs.Symbols.{TooDeep, deeper, enter, enter_atom, enter_unary, enter_negation, tighter, again, same_mark}
use Rattle.pram_trees.specs.Symbols.{is_operator, is_subscript, is_mark, is_rule, bounds, at_mark, at_at_most, is_at_most, at_subscript}
use Rattle.pram_trees.specs.Symbols.{at_rest, assignment, range, turns}
use Rattle.pram_parser.proofs.Covering.{Covers, Covered}
use Rattle.pram_parser.proofs.Stepping.{step_back}
use Rattle.pram_tokens.specs.Tokens.{AreReal}
use Rattle.pram_parser.proofs.Ending.{RefusedAt, ending, viable}

-- What stands behind a refused token does not matter.

bound : (ts : List Token) (k : Stack) (n : ℕ) → RefusedAt (verdict ts k) n → n ≤ length ts
bound ts k n h =
    let v = viable ts k n h in
    let all : length ts ≡ length v.front + length v.back = ap length v.whole ∙ length-append v.front v.back in
    let is = v.is_left in
    omega arith

pub stuck : (front : List Token) (t : Token) (back more : List Token) (k : Stack) → RefusedAt (verdict (front ++ t ∷ back) k)
    (length (t ∷ back)) →
    RefusedAt (verdict (front ++ t ∷ more) k) (length (t ∷ more))
stuck [] t back more k h = by (step k t) h
  where
    by : (m : Move) → RefusedAt (on_move m (verdict back) (length (t ∷ back))) (length (t ∷ back)) →
        RefusedAt (on_move m (verdict more) (length (t ∷ more))) (length (t ∷ more))
    by (Next j) h = let few = bound back j (length (t ∷ back)) h in absurd (omega arith)
    by Refused h = refl
    by TooDeep h = refl
stuck (f ∷ front) t back more k h = by (step k f) (λ j. stuck front t back more j) h
  where
    by : (m : Move) → ((j : Stack) → RefusedAt (verdict (front ++ t ∷ back) j) (length (t ∷ back)) →
        RefusedAt (verdict (front ++ t ∷ more) j) (length (t ∷ more))) →
        RefusedAt (on_move m (verdict (front ++ t ∷ back)) (length (f ∷ (front ++ t ∷ back)))) (length (t ∷ back)) →
        RefusedAt (on_move m (verdict (front ++ t ∷ more)) (length (f ∷ (front ++ t ∷ more)))) (length (t ∷ more))
    by (Next j) inner h = inner j h
    by Refused inner h = absurd (omega (arith, length-append front (t ∷ back)))
    by TooDeep inner h = absurd (omega (arith, length-append front (t ∷ back)))

-- One more level of nesting.

abbrev pub raise_symbol : Symbol → Symbol
raise_symbol (Operand l d) = Operand l (suc d)
raise_symbol (Rest l d) = Rest l (suc d)
raise_symbol (Subscript d) = Subscript (suc d)
raise_symbol (Statements b d) = Statements (suc b) (suc d)
raise_symbol (AfterName b d) = AfterName (suc b) (suc d)
raise_symbol (ForHead b d) = ForHead (suc b) (suc d)
raise_symbol (ForName b d) = ForName (suc b) (suc d)
raise_symbol (Else b d) = Else (suc b) (suc d)
raise_symbol s = s

abbrev pub raise : Stack → Stack
raise [] = []
raise (s ∷ k) = raise_symbol s ∷ raise k

abbrev Raised : Move → Move → Type 0
Raised (Next j) m = m ≡ Next (raise j)
Raised Refused m = m ≡ Refused
Raised TooDeep m = (j : Stack) × (m ≡ Next j)

raise_deeper : (d : ℕ) (f g : ℕ → Stack) → ((i : ℕ) → g (suc i) ≡ raise (f i)) → Raised (deeper d f) (deeper (suc d) g)
raise_deeper zero f g same = (g zero, refl)
raise_deeper (suc d) f g same = ap Next (same d)

raise_atom : (d : ℕ) (t : Token) (k : Stack) → Raised (enter_atom d t k) (enter_atom (suc d) t (raise k))
raise_atom d (token.Mark m) k = by (same_mark mark.OpenParen m)
  where
    by : (b : Bool) → Raised (if b then deeper d (λ i. Operand level.Expression i ∷ (Want mark.CloseParen ∷ k)) else Refused)
        (if b then deeper (suc d) (λ i. Operand level.Expression i ∷ (Want mark.CloseParen ∷ raise k)) else Refused)
    by true = raise_deeper d (λ i. Operand level.Expression i ∷ (Want mark.CloseParen ∷ k)) (λ i. Operand level.Expression i
        ∷ (Want mark.CloseParen ∷ raise k)) (λ i. refl)
    by false = refl
raise_atom d t k = refl

raise_unary : (d : ℕ) (t : Token) (k : Stack) → Raised (enter_unary d t k) (enter_unary (suc d) t (raise k))
raise_unary d (token.Binary op.Subtract) k = raise_deeper d (λ i. Operand level.Unary i ∷ k) (λ i. Operand level.Unary i
    ∷ raise k) (λ i. refl)
raise_unary d t k = raise_atom d t k

raise_negation : (d : ℕ) (t : Token) (k : Stack) → Raised (enter_negation d t k) (enter_negation (suc d) t (raise k))
raise_negation d token.Not k = raise_deeper d (λ i. Operand level.Negation i ∷ k) (λ i. Operand level.Negation i ∷ raise k) (λ i. refl)
raise_negation d t k = raise_unary d t (Rest level.Term d ∷ (Rest level.Sum d ∷ (Rest level.Comparison d ∷ k)))

raise_enter : (l : Level) (d : ℕ) (t : Token) (k : Stack) → Raised (enter l d t k) (enter l (suc d) t (raise k))
unfolding enter
raise_enter level.Atom d t k = raise_atom d t k
raise_enter level.Unary d t k = raise_unary d t k
raise_enter level.Term d t k = raise_unary d t (Rest level.Term d ∷ k)
raise_enter level.Sum d t k = raise_unary d t (Rest level.Term d ∷ (Rest level.Sum d ∷ k))
raise_enter level.Comparison d t k = raise_unary d t (Rest level.Term d ∷ (Rest level.Sum d ∷ (Rest level.Comparison d ∷ k)))
raise_enter level.Negation d t k = raise_negation d t k
raise_enter level.Conjunction d t k = raise_negation d t (Rest level.Conjunction d ∷ k)
raise_enter level.Expression d t k = raise_negation d t (Rest level.Conjunction d ∷ (Rest level.Expression d ∷ k))

raise_again : (l : Level) (d : ℕ) (k : Stack) → again l (suc d) (raise k) ≡ raise (again l d k)
raise_again level.Comparison d k = refl
raise_again l d k = refl

raise_mark : (m : Mark) (t : Token) (j : Stack) (other above : Move) → Raised other above → Raised (at_mark m t j other)
    (at_mark m t (raise j) above)
raise_mark m t j other above h = by (is_mark m t)
  where
    by : (c : Bool) → Raised (if c then Next j else other) (if c then Next (raise j) else above)
    by true = refl
    by false = h

raise_subscript : (d : ℕ) (t : Token) (k : Stack) (other above : Move) → Raised other above → Raised (at_subscript d t k other)
    (at_subscript (suc d) t (raise k) above)
raise_subscript d t k other above h = by (is_subscript t)
  where
    by : (c : Bool) → Raised (if c then deeper d (λ i. Operand level.Expression i ∷ (Want mark.CloseBracket ∷ k)) else other)
        (if c then deeper (suc d) (λ i. Operand level.Expression i ∷ (Want mark.CloseBracket ∷ raise k)) else above)
    by true = raise_deeper d (λ i. Operand level.Expression i ∷ (Want mark.CloseBracket ∷ k)) (λ i. Operand level.Expression i
        ∷ (Want mark.CloseBracket ∷ raise k)) (λ i. refl)
    by false = h

raise_rest : (l : Level) (d : ℕ) (t : Token) (k : Stack) (other above : Move) → Raised other above → Raised (at_rest l d t k other)
    (at_rest l (suc d) t (raise k) above)
raise_rest l d t k other above h = by (is_operator l t)
  where
    by : (c : Bool) → Raised (if c then Next (Operand (tighter l) d ∷ again l d k) else other)
        (if c then Next (Operand (tighter l) (suc d) ∷ again l (suc d) (raise k)) else above)
    by true = ap (λ j. Next (Operand (tighter l) (suc d) ∷ j)) (raise_again l d k)
    by false = h

raise_at_most : (t : Token) (k : Stack) → Raised (at_at_most t k Refused) (at_at_most t (raise k) Refused)
raise_at_most t k = by (is_at_most t)
  where
    by : (c : Bool) → Raised (if c then Next k else Refused) (if c then Next (raise k) else Refused)
    by true = refl
    by false = refl

raise_step : (k : Stack) (t : Token) → Raised (step k t) (step (raise k) t)
raise_step [] t = refl
raise_step (Operand l d ∷ k) t = raise_enter l d t k
raise_step (Rest l d ∷ k) t = by (is_operator l t) (raise_step k t)
  where
    by : (b : Bool) → Raised (step k t) (step (raise k) t) → Raised (if b then Next (Operand (tighter l) d ∷ again l d k) else step k t)
        (if b then Next (Operand (tighter l) (suc d) ∷ again l (suc d) (raise k)) else step (raise k) t)
    by true h = ap (λ j. Next (Operand (tighter l) (suc d) ∷ j)) (raise_again l d k)
    by false h = h
raise_step (Subscript d ∷ k) t = by (is_subscript t) (raise_step k t)
  where
    by : (b : Bool) → Raised (step k t) (step (raise k) t) →
        Raised (if b then deeper d (λ i. Operand level.Expression i ∷ (Want mark.CloseBracket ∷ k)) else step k t)
        (if b then deeper (suc d) (λ i. Operand level.Expression i ∷ (Want mark.CloseBracket ∷ raise k)) else step (raise k) t)
    by true h = raise_deeper d (λ i. Operand level.Expression i ∷ (Want mark.CloseBracket ∷ k)) (λ i. Operand level.Expression i
        ∷ (Want mark.CloseBracket ∷ raise k)) (λ i. refl)
    by false h = h
raise_step (WantRule ∷ k) t = by (is_rule t)
  where
    by : (b : Bool) → Raised (if b then Next k else Refused) (if b then Next (raise k) else Refused)
    by true = refl
    by false = refl
raise_step (WantName ∷ k) (token.Name x) = refl
raise_step (WantName ∷ k) t = refl
raise_step (WantNumber ∷ k) (token.Number n) = refl
raise_step (WantNumber ∷ k) t = refl
raise_step (Declarations ∷ k) t =
    raise_mark mark.Shared t (WantName ∷ (AfterShared ∷ (Declarations ∷ k))) (at_mark mark.Var t (WantName
    ∷ (Want mark.Semicolon ∷ (Declarations ∷ k))) (step k t))
    (at_mark mark.Var t (raise (WantName ∷ (Want mark.Semicolon ∷ (Declarations ∷ k)))) (step (raise k) t))
    (raise_mark mark.Var t (WantName ∷ (Want mark.Semicolon ∷ (Declarations ∷ k))) (step k t) (step (raise k) t) (raise_step k t))
raise_step (AfterShared ∷ k) t =
    raise_mark mark.Semicolon t k (at_mark mark.OpenBracket t (bounds k) Refused) (at_mark mark.OpenBracket t (raise (bounds k)) Refused)
    (raise_mark mark.OpenBracket t (bounds k) Refused Refused refl)
raise_step (WantAtMost ∷ k) (token.Binary op.AtMost) = refl
raise_step (WantAtMost ∷ k) t = refl
raise_step (Statements b d ∷ k) (token.Name x) = refl
raise_step (Statements b d ∷ k) (token.Opening opening.Print at) = refl
raise_step (Statements b d ∷ k) (token.Opening opening.While at) =
    raise_deeper b (λ i. Operand level.Expression d ∷ (Want mark.Do ∷ (Statements i d ∷ (Want mark.End ∷ (Statements b d ∷ k)))))
    (λ i. Operand level.Expression (suc d)
    ∷ (Want mark.Do ∷ (Statements i (suc d) ∷ (Want mark.End ∷ (Statements (suc b) (suc d) ∷ raise k))))) (λ i. refl)
raise_step (Statements b d ∷ k) (token.Opening opening.If at) =
    raise_deeper b (λ i. Operand level.Expression d
    ∷ (Want mark.Then ∷ (Statements i d ∷ (Else i d ∷ (Want mark.End ∷ (Statements b d ∷ k))))))
    (λ i. Operand level.Expression (suc d)
    ∷ (Want mark.Then ∷ (Statements i (suc d) ∷ (Else i (suc d) ∷ (Want mark.End ∷ (Statements (suc b) (suc d) ∷ raise k))))))
    (λ i. refl)
raise_step (Statements b d ∷ k) (token.Opening opening.For at) =
    raise_deeper b (λ i. ForHead i d ∷ (Statements b d ∷ k)) (λ i. ForHead i (suc d) ∷ (Statements (suc b) (suc d) ∷ raise k)) (λ i. refl)
raise_step (Statements b d ∷ k) t = raise_step k t
raise_step (AfterName b d ∷ k) t =
    raise_mark mark.Becomes t (Operand level.Expression d ∷ (Want mark.Semicolon ∷ k)) (at_subscript d t (assignment d k) Refused)
    (at_subscript (suc d) t (assignment (suc d) (raise k)) Refused) (raise_subscript d t (assignment d k) Refused Refused refl)
raise_step (ForHead b d ∷ k) (token.Name x) = refl
raise_step (ForHead b d ∷ k) t = raise_unary d t (Rest level.Term d ∷ (Rest level.Sum d ∷ (WantAtMost ∷ range b d k)))
raise_step (ForName b d ∷ k) t =
    let bounds = WantAtMost ∷ range b d k in
    let sums = at_rest level.Sum d t bounds (at_at_most t (range b d k) Refused) in
    let sums_above = at_rest level.Sum (suc d) t (raise bounds) (at_at_most t (raise (range b d k)) Refused) in
    let terms = at_rest level.Term d t (Rest level.Sum d ∷ bounds) sums in
    let terms_above = at_rest level.Term (suc d) t (raise (Rest level.Sum d ∷ bounds)) sums_above in
    raise_mark mark.Becomes t (turns b d k) (at_subscript d t (Rest level.Term d ∷ (Rest level.Sum d ∷ bounds)) terms)
    (at_subscript (suc d) t (raise (Rest level.Term d ∷ (Rest level.Sum d ∷ bounds))) terms_above)
    (raise_subscript d t (Rest level.Term d ∷ (Rest level.Sum d ∷ bounds)) terms terms_above
    (raise_rest level.Term d t (Rest level.Sum d ∷ bounds) sums sums_above
    (raise_rest level.Sum d t bounds (at_at_most t (range b d k) Refused) (at_at_most t (raise (range b d k)) Refused)
    (raise_at_most t (range b d k)))))
raise_step (Else b d ∷ k) t = raise_mark mark.Else t (Statements b d ∷ k) (step k t) (step (raise k) t) (raise_step k t)
raise_step (Locals ∷ k) t = raise_mark mark.Local t (WantName ∷ (Want mark.Semicolon ∷ (Locals ∷ k))) (step k t) (step (raise k) t)
    (raise_step k t)
raise_step (Want m ∷ k) t = by (is_mark m t)
  where
    by : (b : Bool) → Raised (if b then Next k else Refused) (if b then Next (raise k) else Refused)
    by true = refl
    by false = refl

raise_end : (k : Stack) → may_end (raise k) ≡ may_end k
raise_end [] = refl
raise_end (Operand l d ∷ k) = refl
raise_end (Rest l d ∷ k) = raise_end k
raise_end (Subscript d ∷ k) = raise_end k
raise_end (Declarations ∷ k) = raise_end k
raise_end (Statements b d ∷ k) = raise_end k
raise_end (Else b d ∷ k) = raise_end k
raise_end (Locals ∷ k) = raise_end k
raise_end (WantName ∷ k) = refl
raise_end (s ∷ k) = refl

pub raise_syntax : (ts : List Token) (k : Stack) (n : ℕ) → verdict ts k ≡ SyntaxAt n → verdict ts (raise k) ≡ SyntaxAt n
raise_syntax [] k n h = rw (raise_end k) h
raise_syntax (t ∷ ts) k n h = by (step k t) (step (raise k) t) (raise_step k t) (λ j. raise_syntax ts j n) h
  where
    by : (m r : Move) → Raised m r → ((j : Stack) → verdict ts j ≡ SyntaxAt n → verdict ts (raise j) ≡ SyntaxAt n) →
        on_move m (verdict ts) (length (t ∷ ts)) ≡ SyntaxAt n → on_move r (verdict ts) (length (t ∷ ts)) ≡ SyntaxAt n
    by (Next j) r is inner h = ap (λ v. on_move v (verdict ts) (length (t ∷ ts))) is ∙ inner j h
    by Refused r is inner h = ap (λ v. on_move v (verdict ts) (length (t ∷ ts))) is ∙ h
    by TooDeep r is inner h = cc

-- the token that opens the first level too many begins a sentence of deeper nesting
pub record Opens (k : Stack) (ts : List Token) (n : ℕ) : Type 0 where
  pub front : List Token
  pub opener : Token
  pub back : List Token
  pub whole : ts ≡ front ++ opener ∷ back
  pub is_left : length (opener ∷ back) ≡ n
  pub more : List Token
  pub more_real : AreReal more
  pub deep : Covers (raise k) (front ++ opener ∷ more)
  pub less : List Token
  pub less_real : AreReal less
  pub shallow : Covers k (front ++ less)

pub opens : (ts : List Token) (k : Stack) (n : ℕ) → verdict ts k ≡ TooDeepAt n → Opens k ts n
opens [] k n h = by (may_end k) h
  where
    by : (b : Bool) → (if b then Accepted else SyntaxAt 0) ≡ TooDeepAt n → Opens k [] n
    by true h = absurd cc
    by false h = absurd cc
opens (t ∷ ts) k n h = by (step k t) (step (raise k) t) (raise_step k t) (step_back (raise k) t) (step_back k t) (λ j. opens ts j n) h
  where
    by : (m r : Move) → Raised m r → ((us : List Token) → Covered r us → Covers (raise k) (t ∷ us)) →
        ((us : List Token) → Covered m us → Covers k (t ∷ us)) →
        ((j : Stack) → verdict ts j ≡ TooDeepAt n → Opens j ts n) →
        on_move m (verdict ts) (length (t ∷ ts)) ≡ TooDeepAt n → Opens k (t ∷ ts) n
    by (Next j) r is back below inner h =
        let o = inner j h in
        record {
          less = o.less;
          less_real = o.less_real;
          more_real = o.more_real;
          shallow = below (o.front ++ o.less) o.shallow;
          front = t ∷ o.front;
          opener = o.opener;
          back = o.back;
          whole = ap (λ l. t ∷ l) o.whole;
          is_left = o.is_left;
          more = o.more;
          deep = back (o.front ++ o.opener ∷ o.more) (subst (λ v. Covered v (o.front ++ o.opener ∷ o.more)) (sym is) o.deep);
        }
    by Refused r is back below inner h = absurd cc
    by TooDeep r is back below inner h =
        let left : length (t ∷ ts) ≡ n = cc in
        record {
          less = (ending k).end;
          less_real = (ending k).real;
          shallow = (ending k).covers;
          more_real = (ending is.0).real;
          front = [];
          opener = t;
          back = ts;
          whole = refl;
          is_left = left;
          more = (ending is.0).end;
          deep = back (ending is.0).end (subst (λ v. Covered v (ending is.0).end) (sym is.1) (ending is.0).covers);
        }
