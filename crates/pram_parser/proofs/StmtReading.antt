-- The machine reads each block of the grammar to its end.
use Rattle.std.proofs.Common.{◌≡◌, ℕ, zero, suc, Bool, true, false, List, [], ◌∷◌, ◌++◌, refl, sym, ap, ◌∙◌, append_assoc, subst, arith}
use Rattle.std.proofs.Common.{length, length-append, ◌≤◌, if◌then◌else◌}
use Rattle.pram_tokens.specs.declared.token.Binary.TheVariants as op
use Rattle.pram_tokens.specs.declared.token.Mark.{Mark}
use Rattle.pram_tokens.specs.declared.token.Mark.TheVariants as mark
use Rattle.pram_tokens.specs.declared.token.Name.{Name}
use Rattle.pram_tokens.specs.declared.token.Token.{Token}
use Rattle.pram_tokens.specs.declared.token.Token.TheVariants as token
use Rattle.pram_trees.specs.declared.level.Level.TheVariants as level
use Rattle.pram_trees.specs.declared.tree.Expr.{Expr}
use Rattle.pram_trees.specs.declared.tree.Stmt.{Stmt}
use Rattle.pram_trees.specs.Grammar.{tokens, Fits, Further}
use Rattle.pram_trees.specs.Blocks.{statement_tokens, block_tokens, local_tokens, IsStatement, assign, assign_element, print, while}
use Rattle.pram_trees.specs.Blocks.{if_then, if_else, for_to, pardo, AreStatements, IsFurtherBlock, IsBlock}
use Rattle.pram_trees.specs.Machine.{step, verdict, Verdict, Accepted, SyntaxAt, TooDeepAt, may_end, on_move}
use Rattle.pram_trees.specs.Symbols.{Stack, Operand, Want, WantAtMost, Statements, ForHead, ForName, Else, Locals, is_subscript, is_mark}
use Rattle.pram_trees.specs.Symbols.{same_mark, enter, range, Move, Next, Refused, TooDeep}
use Rattle.pram_parser.proofs.ExprReading.{mark_stops, read}
use Rattle.pram_parser.proofs.Marks.{mark_is}
use Rattle.pram_trees.proofs.StmtTokens.{spell_assign, spell_assign_element, spell_print, spell_while, spell_if_then, spell_if_else}
use Rattle.pram_trees.proofs.StmtTokens.{spell_for, spell_pardo}

-- a token that begins no statement
abbrev pub EndsBlock : Token → Type 0
EndsBlock (token.Mark mark.End) = Unit {0}
EndsBlock (token.Mark mark.Else) = Unit {0}
EndsBlock _ = ⊥

abbrev pub EndsBlockAt : List Token → Type 0
EndsBlockAt [] = ⊥
EndsBlockAt (t ∷ ts) = EndsBlock t

abbrev pub ReadsBlock : (b d : ℕ) → List Stmt → Type 0
ReadsBlock b d body = (k : Stack) (ys : List Token) → EndsBlockAt ys → verdict (block_tokens body ++ ys) (Statements b d ∷ k) ≡ verdict ys k

pass_block : (b d : ℕ) (k : Stack) (ys : List Token) → EndsBlockAt ys → verdict ys (Statements b d ∷ k) ≡ verdict ys k
pass_block b d k [] never = absurd never
pass_block b d k (token.Mark mark.End ∷ ys) h = refl
pass_block b d k (token.Mark mark.Else ∷ ys) h = refl
pass_block b d k (t ∷ ys) never = absurd never

further : (d : ℕ) (x : Expr) → Further d level.Expression x → (i : ℕ) × (d ≡ suc i) × Fits i level.Expression x
further zero x never = absurd never
further (suc i) x h = (i, refl, h)

-- an expression and the mark behind it
upto : (m : Mark) (d : ℕ) (x : Expr) → Fits d level.Expression x → is_subscript (token.Mark m) ≡ false → same_mark m m ≡ true →
    (k : Stack) (ys : List Token) →
    verdict (tokens x ++ (token.Mark m ∷ ys)) (Operand level.Expression d ∷ (Want m ∷ k)) ≡ verdict ys k
upto m d x h ends itself k ys = read d level.Expression x h (Want m ∷ k) (token.Mark m ∷ ys) (mark_stops m ends) ∙ rw itself

read_locals : (xs : List Name) (b d : ℕ) (k : Stack) (body : List Stmt) (ys : List Token) →
    verdict (block_tokens body ++ (token.Mark mark.End ∷ ys)) (Locals ∷ (Statements b d ∷ (Want mark.End ∷ k))) ≡ verdict ys k →
    verdict (local_tokens xs ++ (block_tokens body ++ (token.Mark mark.End ∷ ys))) (Locals
    ∷ (Statements b d ∷ (Want mark.End ∷ k))) ≡ verdict ys k
read_locals [] b d k body ys h = h
read_locals (x ∷ xs) b d k body ys h = read_locals xs b d k body ys h

-- `for` with a bound is read as a sum, though it may begin with a name.

abbrev Refuses : Verdict → ℕ → Type 0
Refuses Accepted n = ⊥
Refuses (SyntaxAt m) n = m ≡ n
Refuses (TooDeepAt m) n = m ≡ n

bound : (ts : List Token) (k : Stack) (n : ℕ) → Refuses (verdict ts k) n → n ≤ length ts
bound [] k n h = by (may_end k) h
  where
    by : (c : Bool) → Refuses (if c then Accepted else SyntaxAt 0) n → n ≤ 0
    by true never = absurd never
    by false is = omega arith
bound (t ∷ ts) k n h = by (step k t) (λ j. bound ts j n) h
  where
    by : (m : Move) → ((j : Stack) → Refuses (verdict ts j) n → n ≤ length ts) → Refuses (on_move m (verdict ts) (length (t ∷ ts))) n →
        n ≤ length (t ∷ ts)
    by (Next j) inner h = let few = inner j h in omega arith
    by Refused inner is = omega arith
    by TooDeep inner is = omega arith

pub no_becomes : (d : ℕ) (low : Expr) → Fits d level.Sum low → (x : Name) (r ws : List Token) → tokens low ≡ token.Name x ∷ r →
    (z : List Token) →
    r ++ (token.Binary op.AtMost ∷ ws) ≡ token.Mark mark.Becomes ∷ z → ⊥
unfolding enter
no_becomes d low h x r ws is z at =
    let reads = read d level.Sum low h (WantAtMost ∷ []) (token.Binary op.AtMost ∷ ws) (refl, (refl, refl)) in
    let both : SyntaxAt (length (token.Mark mark.Becomes ∷ z)) ≡ verdict ws [] =
    sym (ap (λ l. verdict l (Operand level.Sum d ∷ (WantAtMost ∷ []))) (ap (λ l. l ++ (token.Binary op.AtMost ∷ ws)) is
    ∙ ap (λ l. token.Name x ∷ l) at)) ∙ reads in
    let few = bound ws [] (length (token.Mark mark.Becomes ∷ z)) (subst (λ v. Refuses v (length (token.Mark mark.Becomes ∷ z))) both
    refl) in
    omega (arith, ap length at, length-append r (token.Binary op.AtMost ∷ ws))

for_name : (i d : ℕ) (k : Stack) (x : Name) (y : Token) (ws : List Token) → is_mark mark.Becomes y ≡ false →
    verdict (y ∷ ws) (ForName i d ∷ k) ≡ verdict (token.Name x ∷ (y ∷ ws)) (Operand level.Sum d ∷ (WantAtMost ∷ range i d k))
unfolding enter
for_name i d k x y ws differs = rw differs

for_head : (i d : ℕ) (k : Stack) (low : Expr) → Fits d level.Sum low → (ws : List Token) →
    verdict (tokens low ++ (token.Binary op.AtMost ∷ ws)) (ForHead i d ∷ k) ≡ verdict ws (range i d k)
unfolding enter
for_head i d k low h ws =
    by (tokens low) refl ∙ read d level.Sum low h (WantAtMost ∷ range i d k) (token.Binary op.AtMost ∷ ws) (refl, (refl, refl))
  where
    behind_name : (x : Name) (r : List Token) → tokens low ≡ token.Name x ∷ r →
        verdict (r ++ (token.Binary op.AtMost ∷ ws)) (ForName i d ∷ k) ≡ verdict (token.Name x ∷ (r ++ (token.Binary op.AtMost ∷ ws)))
        (Operand level.Sum d ∷ (WantAtMost ∷ range i d k))
    behind_name x [] is = for_name i d k x (token.Binary op.AtMost) ws refl
    behind_name x (y ∷ r) is = test (is_mark mark.Becomes y) refl
      where
        test : (c : Bool) → is_mark mark.Becomes y ≡ c →
            verdict (y ∷ (r ++ (token.Binary op.AtMost ∷ ws))) (ForName i d ∷ k) ≡ verdict (token.Name x
            ∷ (y ∷ (r ++ (token.Binary op.AtMost ∷ ws)))) (Operand level.Sum d ∷ (WantAtMost ∷ range i d k))
        test false differs = for_name i d k x y (r ++ (token.Binary op.AtMost ∷ ws)) differs
        test true found = absurd (no_becomes d low h x (y ∷ r) ws is (r
            ++ (token.Binary op.AtMost ∷ ws)) (ap (λ v. v ∷ (r ++ (token.Binary op.AtMost ∷ ws))) (mark_is mark.Becomes y found)))

    by : (l : List Token) → tokens low ≡ l → verdict (l ++ (token.Binary op.AtMost ∷ ws))
        (ForHead i d ∷ k) ≡ verdict (l ++ (token.Binary op.AtMost ∷ ws)) (Operand level.Sum d ∷ (WantAtMost ∷ range i d k))
    by [] is = refl
    by (token.Name x ∷ r) is = behind_name x r is
    by (t ∷ r) is = refl

-- a statement does not begin with a local
pass_locals : {d : ℕ} {Inner : List Stmt → Type 0} {x : Stmt} → IsStatement d Inner x → (k : Stack) (ys : List Token) →
    verdict (statement_tokens x ++ ys) (Locals ∷ k) ≡ verdict (statement_tokens x ++ ys) k
pass_locals (assign x v h) k ys = let e = spell_assign ys x v in ap (λ l. verdict l (Locals ∷ k)) e ∙ sym (ap (λ l. verdict l k) e)
pass_locals (assign_element x i v h g) k ys = let e = spell_assign_element ys x i v in ap (λ l. verdict l (Locals ∷ k)) e
    ∙ sym (ap (λ l. verdict l k) e)
pass_locals (print at v h) k ys = let e = spell_print ys at v in ap (λ l. verdict l (Locals ∷ k)) e ∙ sym (ap (λ l. verdict l k) e)
pass_locals (while at c body h g) k ys = let e = spell_while ys at c body in ap (λ l. verdict l (Locals ∷ k)) e
    ∙ sym (ap (λ l. verdict l k) e)
pass_locals (if_then at c body h g) k ys = let e = spell_if_then ys at c body in ap (λ l. verdict l (Locals ∷ k)) e
    ∙ sym (ap (λ l. verdict l k) e)
pass_locals (if_else at c body other h g f) k ys = let e = spell_if_else ys at c body other in ap (λ l. verdict l (Locals ∷ k)) e
    ∙ sym (ap (λ l. verdict l k) e)
pass_locals (for_to at x low high body h g f) k ys = let e = spell_for ys at x low high body in ap (λ l. verdict l (Locals ∷ k)) e
    ∙ sym (ap (λ l. verdict l k) e)
pass_locals (pardo at low x high locals body h g f) k ys = let e = spell_pardo ys at low x high locals body in
    ap (λ l. verdict l (Locals ∷ k)) e ∙ sym (ap (λ l. verdict l k) e)

block_after_locals : (d : ℕ) (Inner : List Stmt → Type 0) (body : List Stmt) → AreStatements d Inner body → (k : Stack) (ys : List Token) →
    verdict (block_tokens body ++ (token.Mark mark.End ∷ ys)) (Locals ∷ k) ≡ verdict (block_tokens body ++ (token.Mark mark.End ∷ ys)) k
block_after_locals d Inner [] h k ys = refl
block_after_locals d Inner (x ∷ rest) h k ys =
    let e = append_assoc (statement_tokens x) (block_tokens rest) (token.Mark mark.End ∷ ys) in
    ap (λ l. verdict l (Locals ∷ k)) e ∙ pass_locals h.0 k (block_tokens rest ++ (token.Mark mark.End ∷ ys)) ∙ sym (ap (λ l. verdict l k) e)

module _ (b d : ℕ) (Inner : List Stmt → Type 0) (inner : (body : List Stmt) → Inner body → (i : ℕ) × (b ≡ suc i) × ReadsBlock i d body
    × AreStatements d (IsFurtherBlock i d) body) where
  read_statement : (x : Stmt) → IsStatement d Inner x → (k : Stack) (ys : List Token) → verdict (statement_tokens x ++ ys)
      (Statements b d ∷ k) ≡ verdict ys (Statements b d ∷ k)
  read_statement _ (assign x v h) k ys =
      ap (λ l. verdict l (Statements b d ∷ k)) (spell_assign ys x v) ∙ upto mark.Semicolon d v h refl refl (Statements b d ∷ k) ys
  read_statement _ (print at v h) k ys =
      ap (λ l. verdict l (Statements b d ∷ k)) (spell_print ys at v) ∙ upto mark.Semicolon d v h refl refl (Statements b d ∷ k) ys
  read_statement _ (assign_element x i v hi hv) k ys =
      let f = further d i hi in
      ap (λ l. verdict l (Statements b d ∷ k)) (spell_assign_element ys x i v)
      ∙ rw f.1 (upto mark.CloseBracket f.0 i f.2 refl refl (Want mark.Becomes
      ∷ (Operand level.Expression (suc f.0) ∷ (Want mark.Semicolon ∷ (Statements b (suc f.0) ∷ k))))
      (token.Mark mark.Becomes ∷ (tokens v ++ (token.Mark mark.Semicolon ∷ ys)))
      ∙ upto mark.Semicolon (suc f.0) v (subst (λ n. Fits n level.Expression v) f.1 hv) refl refl (Statements b (suc f.0) ∷ k) ys)
  read_statement _ (while at c body hc hb) k ys =
      let r = inner body hb in
      ap (λ l. verdict l (Statements b d ∷ k)) (spell_while ys at c body)
      ∙ rw r.1 (upto mark.Do d c hc refl refl (Statements r.0 d ∷ (Want mark.End ∷ (Statements (suc r.0) d ∷ k))) (block_tokens body
      ++ (token.Mark mark.End ∷ ys))
      ∙ r.2 (Want mark.End ∷ (Statements (suc r.0) d ∷ k)) (token.Mark mark.End ∷ ys) tt)
  read_statement _ (if_then at c body hc hb) k ys =
      let r = inner body hb in
      ap (λ l. verdict l (Statements b d ∷ k)) (spell_if_then ys at c body)
      ∙ rw r.1 (upto mark.Then d c hc refl refl (Statements r.0 d ∷ (Else r.0 d ∷ (Want mark.End ∷ (Statements (suc r.0) d ∷ k))))
      (block_tokens body ++ (token.Mark mark.End ∷ ys))
      ∙ r.2 (Else r.0 d ∷ (Want mark.End ∷ (Statements (suc r.0) d ∷ k))) (token.Mark mark.End ∷ ys) tt)
  read_statement _ (if_else at c body other hc hb ho) k ys =
      let r = inner body hb in
      let q = inner other ho in
      let e : r.0 ≡ q.0 = omega (arith, r.1, q.1) in
      ap (λ l. verdict l (Statements b d ∷ k)) (spell_if_else ys at c body other)
      ∙ rw r.1 (upto mark.Then d c hc refl refl (Statements r.0 d ∷ (Else r.0 d ∷ (Want mark.End ∷ (Statements (suc r.0) d ∷ k))))
      (block_tokens body ++ (token.Mark mark.Else ∷ (block_tokens other ++ (token.Mark mark.End ∷ ys))))
      ∙ r.2 (Else r.0 d ∷ (Want mark.End ∷ (Statements (suc r.0) d ∷ k))) (token.Mark mark.Else
      ∷ (block_tokens other ++ (token.Mark mark.End ∷ ys))) tt
      ∙ ap (λ n. verdict (block_tokens other ++ (token.Mark mark.End ∷ ys)) (Statements n d
      ∷ (Want mark.End ∷ (Statements (suc r.0) d ∷ k)))) e
      ∙ q.2 (Want mark.End ∷ (Statements (suc r.0) d ∷ k)) (token.Mark mark.End ∷ ys) tt)
  read_statement _ (for_to at x low high body hl hh hb) k ys =
      let r = inner body hb in
      ap (λ l. verdict l (Statements b d ∷ k)) (spell_for ys at x low high body)
      ∙ rw r.1 (upto mark.To d low hl refl refl (Operand level.Expression d
      ∷ (Want mark.Do ∷ (Statements r.0 d ∷ (Want mark.End ∷ (Statements (suc r.0) d ∷ k)))))
      (tokens high ++ (token.Mark mark.Do ∷ (block_tokens body ++ (token.Mark mark.End ∷ ys))))
      ∙ upto mark.Do d high hh refl refl (Statements r.0 d ∷ (Want mark.End ∷ (Statements (suc r.0) d ∷ k))) (block_tokens body
      ++ (token.Mark mark.End ∷ ys))
      ∙ r.2 (Want mark.End ∷ (Statements (suc r.0) d ∷ k)) (token.Mark mark.End ∷ ys) tt)
  read_statement _ (pardo at low x high locals body hl hh hb) k ys =
      let r = inner body hb in
      let behind = local_tokens locals ++ (block_tokens body ++ (token.Mark mark.End ∷ ys)) in
      ap (λ l. verdict l (Statements b d ∷ k)) (spell_pardo ys at low x high locals body)
      ∙ rw r.1 (for_head r.0 d (Statements (suc r.0) d ∷ k) low hl (token.Name x
      ∷ (token.Binary op.AtMost ∷ (tokens high ++ (token.Mark mark.Pardo ∷ behind))))
      ∙ read d level.Sum high hh (Want mark.Pardo ∷ (Locals ∷ (Statements r.0 d ∷ (Want mark.End ∷ (Statements (suc r.0) d ∷ k)))))
      (token.Mark mark.Pardo ∷ behind) (refl, (refl, refl))
      ∙ read_locals locals r.0 d (Statements (suc r.0) d ∷ k) body ys
      (block_after_locals d (IsFurtherBlock r.0 d) body r.3 (Statements r.0 d ∷ (Want mark.End ∷ (Statements (suc r.0) d ∷ k))) ys
      ∙ r.2 (Want mark.End ∷ (Statements (suc r.0) d ∷ k)) (token.Mark mark.End ∷ ys) tt))

  read_block : (body : List Stmt) → AreStatements d Inner body → ReadsBlock b d body
  read_block [] h k ys ends = pass_block b d k ys ends
  read_block (x ∷ rest) h k ys ends =
      ap (λ l. verdict l (Statements b d ∷ k)) (append_assoc (statement_tokens x) (block_tokens rest) ys)
      ∙ read_statement x h.0 k (block_tokens rest ++ ys) ∙ read_block rest h.1 k ys ends

pub read_blocks : (b d : ℕ) (body : List Stmt) → IsBlock b d body → ReadsBlock b d body
read_blocks zero d = read_block zero d (IsFurtherBlock zero d) (λ body never. absurd never)
read_blocks (suc b) d = read_block (suc b) d (IsFurtherBlock (suc b) d) (λ body h. (b, refl, read_blocks b d body h, h))
