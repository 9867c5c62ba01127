-- The same of statements.
use Rattle.std.proofs.Common.{◌≡◌, ℕ, zero, suc, Bool, true, false, List, [], ◌∷◌, ◌++◌, inl, inr, Some, None, refl, sym, ap, ◌∙◌}
use Rattle.std.proofs.Common.{append_assoc, if◌then◌else◌}
use Rattle.std.proofs.lemmas.List.{append-nil}
use Rattle.pram_trees.specs.declared.level.Level.TheVariants as level
use Rattle.pram_tokens.specs.declared.token.Binary.TheVariants as op
use Rattle.pram_tokens.specs.declared.token.Mark.{Mark}
use Rattle.pram_tokens.specs.declared.token.Mark.TheVariants as mark
use Rattle.pram_tokens.specs.declared.token.Name.{Name}
use Rattle.pram_tokens.specs.declared.token.Opening.TheVariants as opening
use Rattle.pram_tokens.specs.declared.token.Token.{Token}
use Rattle.pram_tokens.specs.declared.token.Token.TheVariants as token
use Rattle.pram_trees.specs.declared.tree.Expr.{Expr}
use Rattle.pram_trees.specs.declared.tree.Stmt.{Stmt}
use Rattle.pram_trees.specs.declared.tree.Stmt.TheVariants as s
use Rattle.pram_trees.specs.Grammar.{tokens, Fits}
use Rattle.pram_trees.specs.Blocks.{statement_tokens, block_tokens, local_tokens, IsStatement, assign, assign_element, print, while}
use Rattle.pram_trees.specs.Blocks.{if_then, if_else, for_to, pardo, IsFurtherBlock, IsBlock}
use Rattle.pram_trees.specs.Machine.{step}
use Rattle.pram_trees.specs.Symbols.{Stack, Operand, Rest, Subscript, Want, WantAtMost, Statements, AfterName, ForHead, ForName, Else}
use Rattle.pram_trees.specs.Symbols.{Next, Refused, same_mark, deeper, is_mark, at_rest, at_subscript, at_at_most, assignment, turns}
use Rattle.pram_trees.specs.Symbols.{range, for_head, for_name, at_statement}
use Rattle.pram_trees.proofs.StmtTokens.{spell_assign, spell_assign_element, spell_print, spell_while, spell_if_then, spell_if_else}
use Rattle.pram_trees.proofs.StmtTokens.{spell_for, spell_pardo}
use Rattle.pram_parser.proofs.Marks.{code_is, mark_is}
use Rattle.pram_parser.proofs.Covering.{Covers, Covered, inside, sum_back, subscript_back, rest_back, at_most_back}

-- an expression of the line and the mark behind it, regrouped
pub upto_back : (m : Mark) (d : ℕ) (k : Stack) (ts : List Token) → Covers (Operand level.Expression d ∷ (Want m ∷ k)) ts →
    (i : Expr) × (r : List Token) × Fits d level.Expression i × (ts ≡ tokens i ++ (token.Mark m ∷ r)) × Covers k r
upto_back m d k ts h = let w = inside m d k ts h in (w.0, w.1, w.2, w.3 ∙ append_assoc (tokens w.0) (token.Mark m ∷ []) w.1, w.4)

pub body_back : (m : Mark) (b d : ℕ) (k : Stack) (ts : List Token) → Covers (Statements b d ∷ (Want m ∷ k)) ts →
    (body : List Stmt) × (r : List Token) × IsBlock b d body × (ts ≡ block_tokens body ++ (token.Mark m ∷ r)) × Covers k r
body_back m b d k ts (a, r, whole, (body, h, is), (c, q, tail, closes, rest)) =
    (body, q, h, whole ∙ ap (λ l. l ++ r) is ∙ ap (λ l. block_tokens body ++ l) (tail ∙ ap (λ l. l ++ q) closes), rest)

-- one statement before others
more_back : (b d : ℕ) (k : Stack) (st : Stmt) (ts r : List Token) → IsStatement d (IsFurtherBlock b d) st → ts ≡ statement_tokens st ++ r →
    Covers (Statements b d ∷ k) r → Covers (Statements b d ∷ k) ts
more_back b d k st ts r h whole (a, q, tail, (body, hb, is), rest) = (
  statement_tokens st ++ block_tokens body,
  q,
  whole ∙ ap (λ l. statement_tokens st ++ l) (tail ∙ ap (λ l. l ++ q) is) ∙ sym (append_assoc (statement_tokens st) (block_tokens body) q),
  (st ∷ body, (h, hb), refl),
  rest,
)

pub statement_back : (b d : ℕ) (t : Token) (k : Stack) (ts : List Token) → Covered (at_statement b d t (Statements b d ∷ k) Refused) ts →
    Covers (Statements b d ∷ k) (t ∷ ts)
statement_back b d (token.Name x) k ts (a, r, whole, f, rest) =
    let st = f x in more_back b d k st.0 (token.Name x ∷ ts) r st.1 (ap (λ l. token.Name x ∷ l) whole ∙ ap (λ l. l ++ r) st.2) rest
statement_back b d (token.Opening opening.Print at) k ts h =
    let u = upto_back mark.Semicolon d (Statements b d ∷ k) ts h in
    more_back b d k (s.Print at u.0) (token.Opening opening.Print at ∷ ts) u.1 (print at u.0 u.2) (ap (λ l. token.Opening opening.Print at
    ∷ l) u.3 ∙ sym (spell_print u.1 at u.0)) u.4
statement_back zero d (token.Opening opening.While at) k ts h = absurd h
statement_back (suc b) d (token.Opening opening.While at) k ts h =
    let u = upto_back mark.Do d (Statements b d ∷ (Want mark.End ∷ (Statements (suc b) d ∷ k))) ts h in
    let w = body_back mark.End b d (Statements (suc b) d ∷ k) u.1 u.4 in
    more_back (suc b) d k (s.While at u.0 w.0) (token.Opening opening.While at ∷ ts) w.1 (while at u.0 w.0 u.2 w.2)
    (ap (λ l. token.Opening opening.While at ∷ l) (u.3 ∙ ap (λ l. tokens u.0 ++ (token.Mark mark.Do ∷ l)) w.3)
    ∙ sym (spell_while w.1 at u.0 w.0)) w.4
statement_back zero d (token.Opening opening.If at) k ts h = absurd h
statement_back (suc b) d (token.Opening opening.If at) k ts h =
    let u = upto_back mark.Then d (Statements b d ∷ (Else b d ∷ (Want mark.End ∷ (Statements (suc b) d ∷ k)))) ts h in
    choice u.0 u.1 u.2 u.3 u.4
  where
    choice : (c : Expr) (mid : List Token) → Fits d level.Expression c → ts ≡ tokens c ++ (token.Mark mark.Then ∷ mid) →
        Covers (Statements b d ∷ (Else b d ∷ (Want mark.End ∷ (Statements (suc b) d ∷ k)))) mid →
        Covers (Statements (suc b) d ∷ k) (token.Opening opening.If at ∷ ts)
    choice c mid hc e (a, r, whole, (body, hb, is), (a2, r2, whole2, inl none, (a3, r3, whole3, closes, rest))) =
        more_back (suc b) d k (s.If at c body None) (token.Opening opening.If at ∷ ts) r3 (if_then at c body hc hb)
        (ap (λ l. token.Opening opening.If at ∷ l) (e ∙ ap (λ l. tokens c ++ (token.Mark mark.Then ∷ l))
        (whole ∙ ap (λ l. l ++ r) is ∙ ap (λ l. block_tokens body ++ l) (whole2 ∙ ap (λ l. l ++ r2) none ∙ whole3
        ∙ ap (λ l. l ++ r3) closes)))
        ∙ sym (spell_if_then r3 at c body)) rest
    choice c mid hc e (a, r, whole, (body, hb, is), (a2, r2, whole2, inr (other, ho, elsed), (a3, r3, whole3, closes, rest))) =
        more_back (suc b) d k (s.If at c body (Some other)) (token.Opening opening.If at ∷ ts) r3 (if_else at c body other hc hb ho)
        (ap (λ l. token.Opening opening.If at ∷ l) (e ∙ ap (λ l. tokens c ++ (token.Mark mark.Then ∷ l))
        (whole ∙ ap (λ l. l ++ r) is ∙ ap (λ l. block_tokens body ++ l) (whole2 ∙ ap (λ l. l ++ r2) elsed
        ∙ ap (λ l. token.Mark mark.Else ∷ (block_tokens other ++ l)) (whole3 ∙ ap (λ l. l ++ r3) closes))))
        ∙ sym (spell_if_else r3 at c body other)) rest
statement_back zero d (token.Opening opening.For at) k ts h = absurd h
statement_back (suc b) d (token.Opening opening.For at) k ts (a, r, whole, f, rest) =
    let st = f at in
    more_back (suc b) d k st.0 (token.Opening opening.For at ∷ ts) r st.1 (ap (λ l. token.Opening opening.For at ∷ l) whole
    ∙ ap (λ l. l ++ r) st.2) rest
statement_back b d t k ts h = absurd h

element_back : (b d : ℕ) (o : Mark) (k : Stack) (ts : List Token) → same_mark mark.OpenBracket o ≡ true →
    Covered (deeper d (λ i. Operand level.Expression i ∷ (Want mark.CloseBracket ∷ assignment d k))) ts →
    Covers (AfterName b d ∷ k) (token.Mark o ∷ ts)
element_back b zero o k ts found h = absurd h
element_back b (suc d) o k ts found h = by u.0 u.1 u.2 u.3 u.4
  where
    u : (i : Expr) × (r : List Token) × Fits d level.Expression i × (ts ≡ tokens i ++ (token.Mark mark.CloseBracket ∷ r))
        × Covers (assignment (suc d) k) r
    u = upto_back mark.CloseBracket d (assignment (suc d) k) ts h

    by : (i : Expr) (mid : List Token) → Fits d level.Expression i → ts ≡ tokens i ++ (token.Mark mark.CloseBracket ∷ mid) →
        Covers (assignment (suc d) k) mid →
        Covers (AfterName b (suc d) ∷ k) (token.Mark o ∷ ts)
    by i mid hi e (a, r, whole, becomes, cov) =
        let v = upto_back mark.Semicolon (suc d) k r cov in
        let tail = token.Mark mark.Becomes ∷ (tokens v.0 ++ token.Mark mark.Semicolon ∷ []) in (
          token.Mark o ∷ (tokens i ++ (token.Mark mark.CloseBracket ∷ tail)),
          v.1,
          ap (λ l. token.Mark o ∷ l) (e ∙ ap (λ l. tokens i ++ (token.Mark mark.CloseBracket ∷ l)) (whole ∙ ap (λ l. l ++ r) becomes
              ∙ ap (λ l. token.Mark mark.Becomes ∷ l)
              (v.3 ∙ sym (append_assoc (tokens v.0) (token.Mark mark.Semicolon ∷ []) v.1)))
              ∙ sym (append_assoc (tokens i) (token.Mark mark.CloseBracket ∷ tail) v.1)),
          (λ x. (
            s.AssignElement x i v.0,
            assign_element x i v.0 hi v.2,
            ap (λ m. token.Name x ∷ (token.Mark m ∷ (tokens i ++ (token.Mark mark.CloseBracket ∷ tail))))
                (sym (code_is mark.OpenBracket o found))
                ∙ sym (spell_assign_element [] x i v.0) ∙ append-nil (statement_tokens (s.AssignElement x i v.0)),
          )),
          v.4,
        )

pub after_name_back : (b d : ℕ) (t : Token) (k : Stack) (ts : List Token) → Covered (step (AfterName b d ∷ k) t) ts →
    Covers (AfterName b d ∷ k) (t ∷ ts)
after_name_back b d (token.Mark o) k ts h = by (same_mark mark.Becomes o) refl h
  where
    element : (c : Bool) → same_mark mark.OpenBracket o ≡ c →
        Covered (if c then deeper d (λ i. Operand level.Expression i ∷ (Want mark.CloseBracket ∷ assignment d k)) else Refused) ts →
        Covers (AfterName b d ∷ k) (token.Mark o ∷ ts)
    element true found h = element_back b d o k ts found h
    element false never h = absurd h

    by : (c : Bool) → same_mark mark.Becomes o ≡ c →
        Covered (if c then Next (Operand level.Expression d ∷ (Want mark.Semicolon ∷ k)) else at_subscript d (token.Mark o) (assignment d k)
        Refused) ts → Covers (AfterName b d ∷ k) (token.Mark o ∷ ts)
    by true found h =
        let u = upto_back mark.Semicolon d k ts h in (
          token.Mark o ∷ (tokens u.0 ++ token.Mark mark.Semicolon ∷ []),
          u.1,
          ap (λ l. token.Mark o ∷ l) (u.3 ∙ sym (append_assoc (tokens u.0) (token.Mark mark.Semicolon ∷ []) u.1)),
          (λ x. (
            s.Assign x u.0,
            assign x u.0 u.2,
            ap (λ m. token.Name x ∷ (token.Mark m ∷ (tokens u.0 ++ token.Mark mark.Semicolon ∷ []))) (sym (code_is mark.Becomes o found))
                ∙ sym (spell_assign [] x u.0) ∙ append-nil (statement_tokens (s.Assign x u.0)),
          )),
          u.4,
        )
    by false never h = element (same_mark mark.OpenBracket o) refl h
after_name_back b d t k ts h = absurd h

-- what stands behind the low bound of a pardo
record Ranged (b d : ℕ) (k : Stack) (ts : List Token) : Type 0 where
  index : Name
  high : Expr
  names : List Name
  body : List Stmt
  after : List Token
  high_fits : Fits d level.Sum high
  is_block : IsBlock b d body
  whole : ts ≡ token.Binary op.AtMost
      ∷ (token.Name index ∷ (token.Binary op.AtMost
      ∷ (tokens high ++ (token.Mark mark.Pardo ∷ (local_tokens names ++ (block_tokens body ++ (token.Mark mark.End ∷ after)))))))
  covers : Covers k after

range_back : (b d : ℕ) (k : Stack) (ts : List Token) → Covers (WantAtMost ∷ range b d k) ts → Ranged b d k ts
range_back b d k ts (
  a1,
  r1,
  w1,
  e1,
  (a2, r2, w2, (x, e2), (a3, r3, w3, e3, (a4, r4, w4, (high, hh, e4), (a5, r5, w5, e5, (a6, r6, w6, (names, e6), more))))),
) =
    let u = body_back mark.End b d k r6 more in
    record {
      index = x;
      high = high;
      names = names;
      body = u.0;
      after = u.1;
      high_fits = hh;
      is_block = u.2;
      covers = u.4;
      whole = w1 ∙ ap (λ l. l ++ r1) e1 ∙ ap (λ l. token.Binary op.AtMost ∷ l) (w2 ∙ ap (λ l. l ++ r2) e2
          ∙ ap (λ l. token.Name x ∷ l) (w3 ∙ ap (λ l. l ++ r3) e3
          ∙ ap (λ l. token.Binary op.AtMost ∷ l) (w4 ∙ ap (λ l. l ++ r4) e4
          ∙ ap (λ l. tokens high ++ l) (w5 ∙ ap (λ l. l ++ r5) e5 ∙ ap (λ l. token.Mark mark.Pardo ∷ l)
          (w6 ∙ ap (λ l. l ++ r6) e6 ∙ ap (λ l. local_tokens names ++ l) u.3)))));
    }

-- the tokens of a pardo behind its `for` and its low bound
abbrev pardo_tail : Name → Expr → List Name → List Stmt → List Token → List Token
pardo_tail x high names body ys =
    token.Binary op.AtMost ∷ (token.Name x
    ∷ (token.Binary op.AtMost ∷ (tokens high
    ++ (token.Mark mark.Pardo ∷ (local_tokens names ++ (block_tokens body ++ (token.Mark mark.End ∷ ys)))))))

pub for_head_back : (b d : ℕ) (t : Token) (k : Stack) (ts : List Token) → Covered (for_head b d t k) ts → Covers (ForHead b d ∷ k) (t ∷ ts)
for_head_back b d (token.Name x) k ts (a, r, whole, f, rest) = (token.Name x ∷ a, r, ap (λ l. token.Name x ∷ l) whole, (λ at. f at x), rest)
for_head_back b d t k ts h = by (sum_back d t (WantAtMost ∷ range b d k) ts h)
  where
    by : Covers (Operand level.Sum d ∷ (WantAtMost ∷ range b d k)) (t ∷ ts) → Covers (ForHead b d ∷ k) (t ∷ ts)
    by (a, r, whole, (low, hl, is), more) =
        let g = range_back b d k r more in
        let tail = pardo_tail g.index g.high g.names g.body [] in
        let grouped : pardo_tail g.index g.high g.names g.body g.after ≡ tail ++ g.after = simp append_assoc in (
          tokens low ++ tail,
          g.after,
          whole ∙ ap (λ l. l ++ r) is ∙ ap (λ l. tokens low ++ l) (g.whole ∙ grouped) ∙ sym (append_assoc (tokens low) tail g.after),
          (λ at. let st = s.Pardo at low g.index g.high g.names g.body in (
            st,
            pardo at low g.index g.high g.names g.body hl g.high_fits g.is_block,
            sym (spell_pardo [] at low g.index g.high g.names g.body) ∙ append-nil (statement_tokens st),
          )),
          g.covers,
        )

-- the name before a sum that goes on, whatever the name is
suffix_back : (b d : ℕ) (k : Stack) (us : List Token) →
    Covers (Subscript d ∷ (Rest level.Term d ∷ (Rest level.Sum d ∷ (WantAtMost ∷ range b d k)))) us → Covers (ForName b d ∷ k) us
suffix_back b d k us (a1, r1, w1, e1, (a2, r2, w2, e2, (a3, r3, w3, e3, more))) = by (range_back b d k r3 more)
  where
    low_of : (x : Name) → (low : Expr) × Fits d level.Sum low × (tokens low ≡ token.Name x ∷ (a1 ++ (a2 ++ a3)))
    low_of x = of (sum_back d (token.Name x) [] (a1 ++ (a2 ++ a3)) (
      a1,
      a2
          ++ a3,
      refl,
      e1,
      (a2, a3, refl, e2, (a3, [], sym (append-nil a3), e3, refl)),
    ))
      where
        of : Covers (Operand level.Sum d ∷ []) (token.Name x ∷ (a1 ++ (a2 ++ a3))) → (low : Expr) × Fits d level.Sum low
            × (tokens low ≡ token.Name x ∷ (a1 ++ (a2 ++ a3)))
        of (a, z, whole, (low, h, is), none) = (low, h, sym is ∙ sym (append-nil a) ∙ ap (λ l. a ++ l) (sym none) ∙ sym whole)

    by : Ranged b d k r3 → Covers (ForName b d ∷ k) us
    by g =
        let tail = pardo_tail g.index g.high g.names g.body [] in
        let grouped : pardo_tail g.index g.high g.names g.body g.after ≡ tail ++ g.after = simp append_assoc in
        let whole = w1 ∙ ap (λ l. a1 ++ l) (w2 ∙ ap (λ l. a2 ++ l) (w3 ∙ ap (λ l. a3 ++ l) (g.whole ∙ grouped))) in
        let regrouped = ap (λ l. a1 ++ l) (ap (λ l. a2 ++ l) (sym (append_assoc a3 tail g.after))
        ∙ sym (append_assoc a2 (a3 ++ tail) g.after)) ∙ sym (append_assoc a1 (a2 ++ (a3 ++ tail)) g.after) in (
          a1 ++ (a2 ++ (a3 ++ tail)),
          g.after,
          whole ∙ regrouped,
          (λ at x. let low = low_of x in
              let st = s.Pardo at low.0 g.index g.high g.names g.body in (
                st,
                pardo at low.0 g.index g.high g.names g.body low.1 g.high_fits g.is_block,
                ap (λ l. token.Opening opening.For at ∷ (token.Name x ∷ l)) (ap (λ l. a1 ++ l) (sym (append_assoc a2 a3 tail))
                    ∙ sym (append_assoc a1 (a2 ++ a3) tail))
                    ∙ ap (λ l. token.Opening opening.For at ∷ (l ++ tail)) (sym low.2)
                    ∙ sym (spell_pardo [] at low.0 g.index g.high g.names g.body) ∙ append-nil (statement_tokens st),
              )),
          g.covers,
        )

turns_back : (b d : ℕ) (t : Token) (k : Stack) (ts : List Token) → t ≡ token.Mark mark.Becomes → Covers (turns b d k) ts →
    Covers (ForName b d ∷ k) (t ∷ ts)
turns_back b d t k ts becomes h =
    let u = upto_back mark.To d (Operand level.Expression d ∷ (Want mark.Do ∷ (Statements b d ∷ (Want mark.End ∷ k)))) ts h in
    let v = upto_back mark.Do d (Statements b d ∷ (Want mark.End ∷ k)) u.1 u.4 in
    let w = body_back mark.End b d k v.1 v.4 in
    let whole = u.3 ∙ ap (λ l. tokens u.0 ++ (token.Mark mark.To ∷ l)) (v.3 ∙ ap (λ l. tokens v.0 ++ (token.Mark mark.Do ∷ l)) w.3) in
    let front = tokens u.0 ++ (token.Mark mark.To
    ∷ (tokens v.0 ++ (token.Mark mark.Do ∷ (block_tokens w.0 ++ (token.Mark mark.End ∷ []))))) in
    let grouped : tokens u.0 ++ (token.Mark mark.To
    ∷ (tokens v.0 ++ (token.Mark mark.Do ∷ (block_tokens w.0 ++ (token.Mark mark.End ∷ w.1))))) ≡ front ++ w.1 = simp append_assoc in (
      t ∷ front,
      w.1,
      ap (λ l. t ∷ l) (whole ∙ grouped),
      (λ at x. (
        s.For at x u.0 v.0 w.0,
        for_to at x u.0 v.0 w.0 u.2 v.2 w.2,
        ap (λ z. token.Opening opening.For at ∷ (token.Name x ∷ (z ∷ front))) becomes ∙ sym (spell_for [] at x u.0 v.0 w.0)
            ∙ append-nil (statement_tokens (s.For at x u.0 v.0 w.0)),
      )),
      w.4,
    )

pub for_name_back : (b d : ℕ) (t : Token) (k : Stack) (ts : List Token) → Covered (for_name b d t k) ts → Covers (ForName b d ∷ k) (t ∷ ts)
for_name_back b d t k ts h = by (is_mark mark.Becomes t) refl h
  where
    by : (c : Bool) → is_mark mark.Becomes t ≡ c →
        Covered (if c then Next (turns b d k) else at_subscript d t (Rest level.Term d ∷ (Rest level.Sum d ∷ (WantAtMost ∷ range b d k)))
        (at_rest level.Term d t (Rest level.Sum d ∷ (WantAtMost ∷ range b d k)) (at_rest level.Sum d t (WantAtMost
        ∷ range b d k) (at_at_most t (range b d k) Refused)))) ts →
        Covers (ForName b d ∷ k) (t ∷ ts)
    by true found h = turns_back b d t k ts (mark_is mark.Becomes t found) h
    by false never h =
        suffix_back b d k (t ∷ ts)
        (subscript_back d t (Rest level.Term d ∷ (Rest level.Sum d ∷ (WantAtMost ∷ range b d k)))
        (at_rest level.Term d t (Rest level.Sum d ∷ (WantAtMost ∷ range b d k)) (at_rest level.Sum d t (WantAtMost
        ∷ range b d k) (at_at_most t (range b d k) Refused))) ts
        (rest_back level.Term d t (Rest level.Sum d ∷ (WantAtMost ∷ range b d k)) (at_rest level.Sum d t (WantAtMost
        ∷ range b d k) (at_at_most t (range b d k) Refused)) ts
        (rest_back level.Sum d t (WantAtMost ∷ range b d k) (at_at_most t (range b d k) Refused) ts (at_most_back t (range b d k) ts))) h)
