-- What a token leaves of what was expected, and the token in front of it, are what was expected.
use Rattle.std.proofs.Common.{◌≡◌, ℕ, Bool, true, false, List, [], ◌∷◌, ◌++◌, inl, inr, refl, sym, ap, ◌∙◌, append_assoc, if◌then◌else◌}
use Rattle.pram_tokens.specs.declared.token.Mark.{Mark}
use Rattle.pram_tokens.specs.declared.token.Mark.TheVariants as mark
use Rattle.pram_tokens.specs.declared.token.Numeral.{Numeral}
use Rattle.pram_tokens.specs.declared.token.Token.{Token}
use Rattle.pram_tokens.specs.declared.token.Token.TheVariants as token
use Rattle.pram_trees.specs.declared.tree.Declaration.{Declaration}
use Rattle.pram_trees.specs.declared.tree.Declaration.TheVariants as declaration
use Rattle.pram_model.specs.Names.{is_one_of}
use Rattle.pram_model.specs.Rules.{rule_words}
use Rattle.pram_trees.specs.Program.{declaration_tokens, declarations_tokens}
use Rattle.pram_trees.specs.Machine.{step}
use Rattle.pram_trees.specs.Symbols.{Stack, Operand, Rest, Subscript, Want, WantRule, WantName, WantNumber, WantAtMost, Declarations}
use Rattle.pram_trees.specs.Symbols.{AfterShared, Statements, AfterName, ForHead, ForName, Else, Locals, Move, Next, Refused, is_mark}
use Rattle.pram_trees.specs.Symbols.{at_mark, bounds, at_declaration}
use Rattle.pram_parser.proofs.Marks.{mark_is, rule_of_word}
use Rattle.pram_parser.proofs.Covering.{Covers, Covered, enter_back, subscript_back, rest_back, at_most_back}
use Rattle.pram_parser.proofs.StmtCovering.{statement_back, after_name_back, for_head_back, for_name_back}

-- a declaration before others
more_declarations : (k : Stack) (y : Declaration) (ts r : List Token) → ts ≡ declaration_tokens y ++ r → Covers (Declarations ∷ k) r →
    Covers (Declarations ∷ k) ts
more_declarations k y ts r whole (a, q, tail, (ds, is), rest) = (
  declaration_tokens y ++ declarations_tokens ds,
  q,
  whole ∙ ap (λ l. declaration_tokens y ++ l) (tail ∙ ap (λ l. l ++ q) is)
      ∙ sym (append_assoc (declaration_tokens y) (declarations_tokens ds) q),
  (y ∷ ds, refl),
  rest,
)

declarations_back : (t : Token) (k : Stack) (other : Move) (ts : List Token) → (Covered other ts → Covers k (t ∷ ts)) →
    Covered (at_declaration t (Declarations ∷ k) other) ts → Covers (Declarations ∷ k) (t ∷ ts)
declarations_back t k other ts pop h = by (is_mark mark.Shared t) refl h
  where
    uniform : (c : Bool) → is_mark mark.Var t ≡ c →
        Covered (if c then Next (WantName ∷ (Want mark.Semicolon ∷ (Declarations ∷ k))) else other) ts → Covers (Declarations ∷ k) (t ∷ ts)
    uniform true found (a, r, whole, (x, named), (b, q, whole_b, semicolon, rest)) =
        more_declarations k (declaration.Uniform x) (t ∷ ts) q
        (ap (λ v. v ∷ ts) (mark_is mark.Var t found) ∙ ap (λ l. token.Mark mark.Var ∷ l) (whole ∙ ap (λ l. l ++ r) named
        ∙ ap (λ l. token.Name x ∷ l) (whole_b ∙ ap (λ l. l ++ q) semicolon))) rest
    uniform false never h = ([], t ∷ ts, refl, ([], refl), pop h)

    by : (c : Bool) → is_mark mark.Shared t ≡ c →
        Covered (if c then Next (WantName ∷ (AfterShared ∷ (Declarations ∷ k))) else at_mark mark.Var t (WantName
        ∷ (Want mark.Semicolon ∷ (Declarations ∷ k))) other) ts →
        Covers (Declarations ∷ k) (t ∷ ts)
    by true found (a, r, whole, (x, named), (b, q, whole_b, f, rest)) =
        more_declarations k (f x).0 (t ∷ ts) q
        (ap (λ v. v ∷ ts) (mark_is mark.Shared t found) ∙ ap (λ l. token.Mark mark.Shared ∷ l) (whole ∙ ap (λ l. l ++ r) named
        ∙ ap (λ l. token.Name x ∷ l) whole_b)
        ∙ ap (λ l. l ++ q) (f x).1) rest
    by false never h = uniform (is_mark mark.Var t) refl h

-- the bounds of an array, and what closes them
bounds_back : (k : Stack) (ts : List Token) → Covers (bounds k) ts → (low high : Numeral) × (r : List Token)
    × (ts ≡ token.Number low ∷ (token.Mark mark.Range
    ∷ (token.Number high ∷ (token.Mark mark.CloseBracket ∷ (token.Mark mark.Semicolon ∷ r))))) × Covers k r
bounds_back k ts (a, r, whole, (low, e), (a1, r1, w1, e1, (a2, r2, w2, (high, e2), (a3, r3, w3, e3, (a4, r4, w4, e4, rest))))) = (
  low,
  high,
  r4,
  whole ∙ ap (λ l. l ++ r) e ∙ ap (λ l. token.Number low ∷ l) (w1 ∙ ap (λ l. l ++ r1) e1
      ∙ ap (λ l. token.Mark mark.Range ∷ l) (w2 ∙ ap (λ l. l ++ r2) e2 ∙ ap (λ l. token.Number high ∷ l) (w3 ∙ ap (λ l. l ++ r3) e3
      ∙ ap (λ l. token.Mark mark.CloseBracket ∷ l) (w4 ∙ ap (λ l. l ++ r4) e4)))),
  rest,
)

after_shared_back : (t : Token) (k : Stack) (ts : List Token) → Covered (step (AfterShared ∷ k) t) ts → Covers (AfterShared ∷ k) (t ∷ ts)
after_shared_back t k ts h = by (is_mark mark.Semicolon t) refl h
  where
    array : (c : Bool) → is_mark mark.OpenBracket t ≡ c → Covered (if c then Next (bounds k) else Refused) ts → Covers (AfterShared ∷ k)
        (t ∷ ts)
    array true found h =
        let b = bounds_back k ts h in (
          t ∷ (token.Number b.0 ∷ (token.Mark mark.Range
              ∷ (token.Number b.1 ∷ (token.Mark mark.CloseBracket ∷ (token.Mark mark.Semicolon ∷ []))))),
          b.2,
          ap (λ l. t ∷ l) b.3,
          (λ x. (
            declaration.Array x b.0 b.1,
            ap (λ v. token.Mark mark.Shared ∷ (token.Name x ∷ (v ∷ (token.Number b.0 ∷ (token.Mark mark.Range ∷ (token.Number b.1
                ∷ (token.Mark mark.CloseBracket ∷ (token.Mark mark.Semicolon ∷ [])))))))) (mark_is mark.OpenBracket t found),
          )),
          b.4,
        )
    array false never h = absurd h

    by : (c : Bool) → is_mark mark.Semicolon t ≡ c → Covered (if c then Next k else at_mark mark.OpenBracket t (bounds k) Refused) ts →
        Covers (AfterShared ∷ k) (t ∷ ts)
    by true found h = (
      t ∷ [],
      ts,
      refl,
      (λ x. (
        declaration.Cell x,
        ap (λ v. token.Mark mark.Shared ∷ (token.Name x ∷ (v ∷ []))) (mark_is mark.Semicolon t found),
      )),
      h,
    )
    by false never h = array (is_mark mark.OpenBracket t) refl h

rule_back : (t : Token) (k : Stack) (ts : List Token) → Covered (step (WantRule ∷ k) t) ts → Covers (WantRule ∷ k) (t ∷ ts)
rule_back (token.Name x) k ts h = by (is_one_of rule_words x.text) refl h
  where
    by : (c : Bool) → is_one_of rule_words x.text ≡ c → Covered (if c then Next k else Refused) ts → Covers (WantRule ∷ k)
        (token.Name x ∷ ts)
    by true found h =
        let r = rule_of_word x.text found in
        (token.Name x ∷ [], ts, refl, (r.0, x.location, ap (λ w. token.Name (record { text = w; location = x.location }) ∷ []) r.1), h)
    by false never h = absurd h
rule_back t k ts h = absurd h

else_back : (b d : ℕ) (t : Token) (k : Stack) (other : Move) (ts : List Token) → (Covered other ts → Covers k (t ∷ ts)) →
    Covered (at_mark mark.Else t (Statements b d ∷ k) other) ts → Covers (Else b d ∷ k) (t ∷ ts)
else_back b d t k other ts pop h = by (is_mark mark.Else t) refl h
  where
    by : (c : Bool) → is_mark mark.Else t ≡ c → Covered (if c then Next (Statements b d ∷ k) else other) ts → Covers (Else b d ∷ k) (t ∷ ts)
    by true found (a, r, whole, (body, hb, is), rest) = (
      t ∷ a,
      r,
      ap (λ l. t ∷ l) whole,
      inr (
        body,
        hb,
        ap (λ v. v ∷ a) (mark_is mark.Else t found)
            ∙ ap (λ l. token.Mark mark.Else ∷ l) is,
      ),
      rest,
    )
    by false never h = ([], t ∷ ts, refl, inl refl, pop h)

locals_back : (t : Token) (k : Stack) (other : Move) (ts : List Token) → (Covered other ts → Covers k (t ∷ ts)) →
    Covered (at_mark mark.Local t (WantName ∷ (Want mark.Semicolon ∷ (Locals ∷ k))) other) ts → Covers (Locals ∷ k) (t ∷ ts)
locals_back t k other ts pop h = by (is_mark mark.Local t) refl h
  where
    by : (c : Bool) → is_mark mark.Local t ≡ c → Covered (if c then Next (WantName ∷ (Want mark.Semicolon ∷ (Locals ∷ k))) else other) ts →
        Covers (Locals ∷ k) (t ∷ ts)
    by true found (a, r, whole, (x, named), (a2, r2, whole2, semicolon, (a3, r3, whole3, (xs, are), rest))) = (
      t ∷ (a ++ (a2 ++ a3)),
      r3,
      ap (λ l. t ∷ l) (whole ∙ ap (λ l. a ++ l) (whole2 ∙ ap (λ l. a2 ++ l) whole3 ∙ sym (append_assoc a2 a3 r3))
          ∙ sym (append_assoc a (a2 ++ a3) r3)),
      (
        x ∷ xs,
        ap (λ v. v ∷ (a ++ (a2 ++ a3))) (mark_is mark.Local t found) ∙ ap (λ l. token.Mark mark.Local ∷ l)
            (ap (λ l. l ++ (a2 ++ a3)) named
            ∙ ap (λ l. token.Name x ∷ l) (ap (λ l. l ++ a3) semicolon ∙ ap (λ l. token.Mark mark.Semicolon ∷ l) are)),
      ),
      rest,
    )
    by false never h = ([], t ∷ ts, refl, ([], refl), pop h)

want_back : (m : Mark) (t : Token) (k : Stack) (ts : List Token) → Covered (at_mark m t k Refused) ts → Covers (Want m ∷ k) (t ∷ ts)
want_back m t k ts h = by (is_mark m t) refl h
  where
    by : (c : Bool) → is_mark m t ≡ c → Covered (if c then Next k else Refused) ts → Covers (Want m ∷ k) (t ∷ ts)
    by true found h = (t ∷ [], ts, refl, ap (λ v. v ∷ []) (mark_is m t found), h)
    by false never h = absurd h

-- whatever goes on from what a token leaves, goes on with that token in front from what was expected
pub step_back : (k : Stack) (t : Token) (ts : List Token) → Covered (step k t) ts → Covers k (t ∷ ts)
step_back [] t ts h = absurd h
step_back (Operand l d ∷ k) t ts h = enter_back l d t k ts h
step_back (Rest l d ∷ k) t ts h = rest_back l d t k (step k t) ts (step_back k t ts) h
step_back (Subscript d ∷ k) t ts h = subscript_back d t k (step k t) ts (step_back k t ts) h
step_back (Want m ∷ k) t ts h = want_back m t k ts h
step_back (WantRule ∷ k) t ts h = rule_back t k ts h
step_back (WantName ∷ k) (token.Name x) ts h = (token.Name x ∷ [], ts, refl, (x, refl), h)
step_back (WantName ∷ k) t ts h = absurd h
step_back (WantNumber ∷ k) (token.Number n) ts h = (token.Number n ∷ [], ts, refl, (n, refl), h)
step_back (WantNumber ∷ k) t ts h = absurd h
step_back (WantAtMost ∷ k) t ts h = at_most_back t k ts h
step_back (Declarations ∷ k) t ts h = declarations_back t k (step k t) ts (step_back k t ts) h
step_back (AfterShared ∷ k) t ts h = after_shared_back t k ts h
step_back (Statements b d ∷ k) (token.Name x) ts h = statement_back b d (token.Name x) k ts h
step_back (Statements b d ∷ k) (token.Opening o at) ts h = statement_back b d (token.Opening o at) k ts h
step_back (Statements b d ∷ k) t ts h = ([], t ∷ ts, refl, ([], tt, refl), step_back k t ts h)
step_back (AfterName b d ∷ k) t ts h = after_name_back b d t k ts h
step_back (ForHead b d ∷ k) t ts h = for_head_back b d t k ts h
step_back (ForName b d ∷ k) t ts h = for_name_back b d t k ts h
step_back (Else b d ∷ k) t ts h = else_back b d t k (step k t) ts (step_back k t ts) h
step_back (Locals ∷ k) t ts h = locals_back t k (step k t) ts (step_back k t ts) h
