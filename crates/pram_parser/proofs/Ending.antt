-- Whatever is expected can be fulfilled, so a refused list of tokens has a front that begins a program.
use Rattle.std.proofs.Common.{◌≡◌, ℕ, Bool, true, false, List, [], ◌∷◌, ◌++◌, length, inl, refl, sym, ap, ◌∙◌, subst, if◌then◌else◌, codes}
use Rattle.std.proofs.Common.{pos, rules}
use Rattle.std.proofs.lemmas.List.{append-nil}
use Rattle.pram_trees.specs.declared.level.Level.{Level}
use Rattle.pram_trees.specs.declared.level.Level.TheVariants as level
use Rattle.pram_model.specs.declared.rule.Rule.TheVariants as rule
use Rattle.pram_tokens.specs.declared.token.Binary.TheVariants as op
use Rattle.pram_tokens.specs.declared.token.Location.{Location}
use Rattle.pram_tokens.specs.declared.token.Mark.TheVariants as mark
use Rattle.pram_tokens.specs.declared.token.Name.{Name}
use Rattle.pram_tokens.specs.declared.token.Numeral.{Numeral}
use Rattle.pram_tokens.specs.declared.token.Token.{Token}
use Rattle.pram_tokens.specs.declared.token.Token.TheVariants as token
use Rattle.pram_trees.specs.declared.tree.Declaration.TheVariants as declaration
use Rattle.pram_trees.specs.declared.tree.Expr.{Expr}
use Rattle.pram_trees.specs.declared.tree.Expr.TheVariants as e
use Rattle.pram_trees.specs.declared.tree.Stmt.TheVariants as s
use Rattle.pram_model.specs.Names.{IsName}
use Rattle.pram_tokens.specs.Tokens.{AreReal, IsNumber}
use Rattle.pram_trees.specs.Grammar.{tokens, chained, compared, number, atom, IsTerm, IsSum, IsNegation, comparison, IsConjunction, IsAt}
use Rattle.pram_trees.specs.Grammar.{Further}
use Rattle.pram_trees.specs.Blocks.{statement_tokens, assign, for_to}
use Rattle.pram_trees.specs.Program.{rule_token}
use Rattle.pram_trees.specs.Machine.{step, verdict, on_move, Verdict, Accepted, SyntaxAt, TooDeepAt, may_end}
use Rattle.pram_trees.specs.Symbols.{Stack, Symbol, Operand, Rest, Subscript, Want, WantRule, WantName, WantNumber, WantAtMost}
use Rattle.pram_trees.specs.Symbols.{Declarations, AfterShared, Statements, AfterName, ForHead, ForName, Else, Locals, Move, Next, Refused}
use Rattle.pram_trees.specs.Symbols.{TooDeep}
use Rattle.pram_trees.proofs.ExprTokens.{tokens-Number}
use Rattle.pram_trees.proofs.StmtTokens.{spell_assign, spell_for}
use Rattle.pram_tokens.proofs.Real.{append_real}
use Rattle.pram_parser.proofs.Covering.{Becomes, Covers, Covered, no_steps}
use Rattle.pram_parser.proofs.Stepping.{step_back}

abbrev nowhere : Location
nowhere = record { offset = 0; line = 0 }

abbrev no_numeral : Numeral
no_numeral = record { value = pos 0; location = nowhere }

abbrev some_name : Name
some_name = record { text = codes "a"; location = nowhere }

is_name : IsName (codes "a")
is_name = record { letter = refl; words = refl; no_keyword = refl }

is_number : IsNumber (pos 0)
is_number = record { no_sign = search rules; bounded = search rules }

abbrev nought : Expr
nought = e.Number no_numeral

nought_real : AreReal (tokens nought)
nought_real = subst AreReal (sym (tokens-Number no_numeral)) (is_number, tt)

module _ (Inner : Level → Expr → Type 0) where
  nought_term : IsTerm Inner nought
  nought_term = chained nought [] (atom (number no_numeral)) tt

  nought_sum : IsSum Inner nought
  nought_sum = chained nought [] nought_term tt

  nought_negation : IsNegation Inner nought
  nought_negation = comparison (compared nought [] nought_sum tt tt)

  nought_conjunction : IsConjunction Inner nought
  nought_conjunction = chained nought [] nought_negation tt

  nought_at : (l : Level) → IsAt Inner l nought
  nought_at level.Atom = number no_numeral
  nought_at level.Unary = atom (number no_numeral)
  nought_at level.Term = nought_term
  nought_at level.Sum = nought_sum
  nought_at level.Comparison = compared nought [] nought_sum tt tt
  nought_at level.Negation = nought_negation
  nought_at level.Conjunction = nought_conjunction
  nought_at level.Expression = chained nought [] nought_conjunction tt

-- a loop behind its name
abbrev for_end : List Token
for_end = token.Mark mark.Becomes
    ∷ (tokens nought ++ (token.Mark mark.To ∷ (tokens nought ++ (token.Mark mark.Do ∷ (token.Mark mark.End ∷ [])))))

for_end_is : (b d : ℕ) → Becomes (ForName b d) for_end
for_end_is b d at x = (
  s.For at x nought nought [],
  for_to at x nought nought [] (nought_at (Further d) level.Expression) (nought_at (Further d) level.Expression) tt,
  sym (spell_for [] at x nought nought []) ∙ append-nil (statement_tokens (s.For at x nought nought [])),
)

for_end_real : AreReal for_end
for_end_real =
    (tt, append_real (tokens nought) _ nought_real (tt, append_real (tokens nought) _ nought_real (tt, (tt, tt))))

-- The shortest end of each.
shortest : (y : Symbol) → (ts : List Token) × Becomes y ts × AreReal ts
shortest (Operand l d) = (tokens nought, (nought, nought_at (Further d) l, refl), nought_real)
shortest (Rest l d) = ([], ([], tt, no_steps l, refl), tt)
shortest (Subscript d) = ([], inl refl, tt)
shortest (Want m) = (token.Mark m ∷ [], refl, (tt, tt))
shortest WantRule = (
  rule_token rule.Erew nowhere ∷ [],
  (rule.Erew, nowhere, refl),
  (record { letter = refl; words = refl; no_keyword = refl }, tt),
)
shortest WantName = (token.Name some_name ∷ [], (some_name, refl), (is_name, tt))
shortest WantNumber = (token.Number no_numeral ∷ [], (no_numeral, refl), (is_number, tt))
shortest WantAtMost = (token.Binary op.AtMost ∷ [], refl, (tt, tt))
shortest Declarations = ([], ([], refl), tt)
shortest AfterShared = (token.Mark mark.Semicolon ∷ [], (λ x. (declaration.Cell x, refl)), (tt, tt))
shortest (Statements b d) = ([], ([], tt, refl), tt)
shortest (AfterName b d) = (
  token.Mark mark.Becomes ∷ (tokens nought ++ token.Mark mark.Semicolon ∷ []),
  (λ x. (
    s.Assign x nought,
    assign x nought (nought_at (Further d) level.Expression),
    sym (spell_assign [] x nought) ∙ append-nil (statement_tokens (s.Assign x nought)),
  )),
  (tt, append_real (tokens nought) _ nought_real (tt, tt)),
)
shortest (ForHead b d) = (token.Name some_name ∷ for_end, (λ at. for_end_is b d at some_name), (is_name, for_end_real))
shortest (ForName b d) = (for_end, for_end_is b d, for_end_real)
shortest (Else b d) = ([], inl refl, tt)
shortest Locals = ([], ([], refl), tt)

pub record Ending (k : Stack) : Type 0 where
  pub end : List Token
  pub covers : Covers k end
  pub real : AreReal end

pub ending : (k : Stack) → Ending k
ending [] = record { end = []; covers = refl; real = tt }
ending (s ∷ k) =
    let front = shortest s in
    let back = ending k in
    record {
      end = front.0 ++ back.end;
      covers = (front.0, back.end, refl, front.1, back.covers);
      real = append_real front.0 back.end front.2 back.real;
    }

-- A list of tokens that is refused has a front that can be gone on with, and then the refused token.
pub record Viable (k : Stack) (ts : List Token) (left : ℕ) : Type 0 where
  pub front : List Token
  pub back : List Token
  pub whole : ts ≡ front ++ back
  pub is_left : length back ≡ left
  pub more : List Token
  pub real : AreReal more
  pub goes_on : Covers k (front ++ more)

abbrev here : (k : Stack) (ts : List Token) → Viable k ts (length ts)
here k ts = record {
  front = [];
  back = ts;
  whole = refl;
  is_left = refl;
  more = (ending k).end;
  real = (ending k).real;
  goes_on =
      (ending k).covers;
}

abbrev pub RefusedAt : Verdict → ℕ → Type 0
RefusedAt Accepted n = ⊥
RefusedAt (SyntaxAt m) n = m ≡ n
RefusedAt (TooDeepAt m) n = m ≡ n

pub viable : (ts : List Token) (k : Stack) (n : ℕ) → RefusedAt (verdict ts k) n → Viable k ts n
viable [] k n h = by (may_end k) h
  where
    by : (b : Bool) → RefusedAt (if b then Accepted else SyntaxAt 0) n → Viable k [] n
    by true never = absurd never
    by false is = subst (Viable k []) is (here k [])
viable (t ∷ ts) k n h = by (step k t) (step_back k t) (λ j. viable ts j n) h
  where
    by : (m : Move) → ((us : List Token) → Covered m us → Covers k (t ∷ us)) → ((j : Stack) → RefusedAt (verdict ts j) n → Viable j ts n) →
        RefusedAt (on_move m (verdict ts) (length (t ∷ ts))) n → Viable k (t ∷ ts) n
    by (Next j) back inner h =
        let v = inner j h in
        record {
          front = t ∷ v.front;
          back = v.back;
          whole = ap (λ l. t ∷ l) v.whole;
          is_left = v.is_left;
          more = v.more;
          real = v.real;
          goes_on = back (v.front ++ v.more) v.goes_on;
        }
    by Refused back inner is = subst (Viable k (t ∷ ts)) is (here k (t ∷ ts))
    by TooDeep back inner is = subst (Viable k (t ∷ ts)) is (here k (t ∷ ts))
