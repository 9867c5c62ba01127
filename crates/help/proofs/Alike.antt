-- Tokens of one kind could stand in the same places: what becomes of a list of tokens doesn't depend on which of them it has.
use Rattle.std.proofs.Common.{◌≡◌, ◌∙◌, ◌++◌, ◌∷◌, [], Bool, true, false, List, ℕ, ap, if◌then◌else◌, length, refl, sym, suc}
use Rattle.std.proofs.lemmas.List.{length-append}
use Rattle.pram_model.specs.Names.{is_one_of}
use Rattle.pram_model.specs.Rules.{rule_words}
use Rattle.pram_tokens.specs.declared.token.Location.{Location}
use Rattle.pram_tokens.specs.declared.token.Mark.TheVariants as mark
use Rattle.pram_tokens.specs.declared.token.Name.{Name}
use Rattle.pram_tokens.specs.declared.token.Numeral.{Numeral}
use Rattle.pram_tokens.specs.declared.token.Opening.{Opening}
use Rattle.pram_tokens.specs.declared.token.Token.{Token}
use Rattle.pram_tokens.specs.declared.token.Token.TheVariants as token
use Rattle.pram_trees.specs.declared.level.Level.{Level}
use Rattle.pram_trees.specs.declared.level.Level.TheVariants as level
use Rattle.pram_trees.specs.Machine.{Accepted, SyntaxAt, TooDeepAt, may_end, on_move, step, verdict}
use Rattle.pram_trees.specs.Symbols.{Stack, Operand, Rest, Subscript, Want, WantRule, WantName, WantNumber, WantAtMost, Declarations}
use Rattle.pram_trees.specs.Symbols.{AfterShared, Statements, AfterName, ForHead, ForName, Else, Locals, Move, Next, Refused, TooDeep}
use Rattle.pram_trees.specs.Symbols.{enter}

-- two names of which both are rules' words or neither is, two numbers, or one word at two places
pub data Alike : Token → Token → Type 0 where
  names : (x y : Name) → is_one_of rule_words x.text ≡ is_one_of rule_words y.text → Alike (token.Name x) (token.Name y)
  numbers : (m n : Numeral) → Alike (token.Number m) (token.Number n)
  openings : (o : Opening) (a b : Location) → Alike (token.Opening o a) (token.Opening o b)
  one : (t : Token) → Alike t t

name_enters : (l : Level) (d : ℕ) (x y : Name) (k : Stack) → enter l d (token.Name x) k ≡ enter l d (token.Name y) k
unfolding enter
name_enters level.Expression d x y k = refl
name_enters level.Conjunction d x y k = refl
name_enters level.Negation d x y k = refl
name_enters level.Comparison d x y k = refl
name_enters level.Sum d x y k = refl
name_enters level.Term d x y k = refl
name_enters level.Unary d x y k = refl
name_enters level.Atom d x y k = refl

number_enters : (l : Level) (d : ℕ) (m n : Numeral) (k : Stack) → enter l d (token.Number m) k ≡ enter l d (token.Number n) k
unfolding enter
number_enters level.Expression d m n k = refl
number_enters level.Conjunction d m n k = refl
number_enters level.Negation d m n k = refl
number_enters level.Comparison d m n k = refl
number_enters level.Sum d m n k = refl
number_enters level.Term d m n k = refl
number_enters level.Unary d m n k = refl
number_enters level.Atom d m n k = refl

opening_enters : (l : Level) (d : ℕ) (o : Opening) (a b : Location) (k : Stack) → enter l d (token.Opening o a) k ≡ enter l d
    (token.Opening o b) k
unfolding enter
opening_enters level.Expression d o a b k = refl
opening_enters level.Conjunction d o a b k = refl
opening_enters level.Negation d o a b k = refl
opening_enters level.Comparison d o a b k = refl
opening_enters level.Sum d o a b k = refl
opening_enters level.Term d o a b k = refl
opening_enters level.Unary d o a b k = refl
opening_enters level.Atom d o a b k = refl

name_step : (k : Stack) (x y : Name) → is_one_of rule_words x.text ≡ is_one_of rule_words y.text → step k (token.Name x) ≡ step k
    (token.Name y)
name_step [] x y is = refl
name_step (Operand l d ∷ k) x y is = name_enters l d x y k
name_step (Rest l d ∷ k) x y is = name_step k x y is
name_step (Subscript d ∷ k) x y is = name_step k x y is
name_step (Want m ∷ k) x y is = refl
name_step (WantRule ∷ k) x y is = ap (λ b. if b then Next k else Refused) is
name_step (WantName ∷ k) x y is = refl
name_step (WantNumber ∷ k) x y is = refl
name_step (WantAtMost ∷ k) x y is = refl
name_step (Declarations ∷ k) x y is = name_step k x y is
name_step (AfterShared ∷ k) x y is = refl
name_step (Statements b d ∷ k) x y is = refl
name_step (AfterName b d ∷ k) x y is = refl
name_step (ForHead b d ∷ k) x y is = refl
name_step (ForName b d ∷ k) x y is = refl
name_step (Else b d ∷ k) x y is = name_step k x y is
name_step (Locals ∷ k) x y is = name_step k x y is

number_step : (k : Stack) (m n : Numeral) → step k (token.Number m) ≡ step k (token.Number n)
number_step [] m n = refl
number_step (Operand l d ∷ k) m n = number_enters l d m n k
number_step (Rest l d ∷ k) m n = number_step k m n
number_step (Subscript d ∷ k) m n = number_step k m n
number_step (Want o ∷ k) m n = refl
number_step (WantRule ∷ k) m n = refl
number_step (WantName ∷ k) m n = refl
number_step (WantNumber ∷ k) m n = refl
number_step (WantAtMost ∷ k) m n = refl
number_step (Declarations ∷ k) m n = number_step k m n
number_step (AfterShared ∷ k) m n = refl
number_step (Statements b d ∷ k) m n = number_step k m n
number_step (AfterName b d ∷ k) m n = refl
number_step (ForHead b d ∷ k) m n = refl
number_step (ForName b d ∷ k) m n = refl
number_step (Else b d ∷ k) m n = number_step k m n
number_step (Locals ∷ k) m n = number_step k m n

opening_step : (k : Stack) (o : Opening) (a b : Location) → step k (token.Opening o a) ≡ step k (token.Opening o b)
opening_step [] o a b = refl
opening_step (Operand l d ∷ k) o a b = opening_enters l d o a b k
opening_step (Rest l d ∷ k) o a b = opening_step k o a b
opening_step (Subscript d ∷ k) o a b = opening_step k o a b
opening_step (Want m ∷ k) o a b = refl
opening_step (WantRule ∷ k) o a b = refl
opening_step (WantName ∷ k) o a b = refl
opening_step (WantNumber ∷ k) o a b = refl
opening_step (WantAtMost ∷ k) o a b = refl
opening_step (Declarations ∷ k) o a b = opening_step k o a b
opening_step (AfterShared ∷ k) o a b = refl
opening_step (Statements c d ∷ k) o a b = refl
opening_step (AfterName c d ∷ k) o a b = refl
opening_step (ForHead c d ∷ k) o a b = refl
opening_step (ForName c d ∷ k) o a b = refl
opening_step (Else c d ∷ k) o a b = opening_step k o a b
opening_step (Locals ∷ k) o a b = opening_step k o a b

alike_step : (k : Stack) (t u : Token) → Alike t u → step k t ≡ step k u
alike_step k t u (names x y is) = name_step k x y is
alike_step k t u (numbers m n) = number_step k m n
alike_step k t u (openings o a b) = opening_step k o a b
alike_step k t u (one v) = refl

-- the same becomes of lists that differ in it
pub alike_verdict : (front more : List Token) (t u : Token) (k : Stack) → Alike t u →
    verdict (front ++ t ∷ more) k ≡ verdict (front ++ u ∷ more) k
alike_verdict [] more t u k a = ap (λ m. on_move m (verdict more) (length (t ∷ more))) (alike_step k t u a)
alike_verdict (s ∷ front) more t u k a = by (step k s) (λ j. alike_verdict front more t u j a)
  where
    lengths : length (front ++ t ∷ more) ≡ length (front ++ u ∷ more)
    lengths = length-append front (t ∷ more) ∙ sym (length-append front (u ∷ more))

    by : (m : Move) → ((j : Stack) → verdict (front ++ t ∷ more) j ≡ verdict (front ++ u ∷ more) j) →
        on_move m (verdict (front ++ t ∷ more)) (length (s ∷ (front ++ t ∷ more)))
        ≡ on_move m (verdict (front ++ u ∷ more)) (length (s ∷ (front ++ u ∷ more)))
    by (Next j) inner = inner j
    by Refused inner = ap (λ n. SyntaxAt (suc n)) lengths
    by TooDeep inner = ap (λ n. TooDeepAt (suc n)) lengths

-- `rule` never stands where a program may end
no_rule : (k : Stack) → may_end k ≡ true → step k (token.Mark mark.Rule) ≡ Refused
no_rule [] h = refl
no_rule (Operand l d ∷ k) h = absurd (cc h)
no_rule (Rest l d ∷ k) h = no_rule k h
no_rule (Subscript d ∷ k) h = no_rule k h
no_rule (Want m ∷ k) h = absurd (cc h)
no_rule (WantRule ∷ k) h = absurd (cc h)
no_rule (WantName ∷ k) h = absurd (cc h)
no_rule (WantNumber ∷ k) h = absurd (cc h)
no_rule (WantAtMost ∷ k) h = absurd (cc h)
no_rule (Declarations ∷ k) h = no_rule k h
no_rule (AfterShared ∷ k) h = absurd (cc h)
no_rule (Statements b d ∷ k) h = no_rule k h
no_rule (AfterName b d ∷ k) h = absurd (cc h)
no_rule (ForHead b d ∷ k) h = absurd (cc h)
no_rule (ForName b d ∷ k) h = absurd (cc h)
no_rule (Else b d ∷ k) h = no_rule k h
no_rule (Locals ∷ k) h = no_rule k h

-- so it is what is wrong behind a whole program
pub one_too_many : (ts : List Token) (k : Stack) → verdict ts k ≡ Accepted → verdict (ts ++ token.Mark mark.Rule ∷ []) k ≡ SyntaxAt 1
one_too_many [] k h = ap (λ m. on_move m (verdict []) 1) (no_rule k (by (may_end k) refl))
  where
    by : (b : Bool) → may_end k ≡ b → may_end k ≡ true
    by true is = is
    by false is = absurd (cc (h, is))
one_too_many (t ∷ ts) k h = by (step k t) refl h (λ j. one_too_many ts j)
  where
    by : (m : Move) → step k t ≡ m → on_move m (verdict ts) (length (t ∷ ts)) ≡ Accepted →
        ((j : Stack) → verdict ts j ≡ Accepted → verdict (ts ++ token.Mark mark.Rule ∷ []) j ≡ SyntaxAt 1) →
        on_move (step k t) (verdict (ts ++ token.Mark mark.Rule ∷ [])) (length (t ∷ (ts ++ token.Mark mark.Rule ∷ []))) ≡ SyntaxAt 1
    by (Next j) is h inner =
        ap (λ m. on_move m (verdict (ts ++ token.Mark mark.Rule ∷ [])) (length (t ∷ (ts ++ token.Mark mark.Rule ∷ [])))) is ∙ inner j h
    by Refused is h inner = absurd (cc h)
    by TooDeep is h inner = absurd (cc h)
