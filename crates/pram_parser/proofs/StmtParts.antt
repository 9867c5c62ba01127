-- How the parser of statements puts together what it found.
use Rattle.std.proofs.Common.{◌≡◌, ◌≢◌, ℕ, zero, suc, ◌-◌, ◌<◌, ◌≤◌, true, false, List, [], ◌∷◌, ◌++◌, length, refl, sym, ap, ◌∙◌, subst}
use Rattle.std.proofs.Common.{arith, append_assoc, length-append, Some, None}
use Rattle.pram_tokens.specs.declared.token.Binary.TheVariants as op
use Rattle.pram_tokens.specs.declared.token.Mark.TheVariants as mark
use Rattle.pram_tokens.specs.declared.token.Name.{Name}
use Rattle.pram_tokens.specs.declared.token.Opening.{Opening}
use Rattle.pram_tokens.specs.declared.token.Opening.TheVariants as opening
use Rattle.pram_tokens.specs.declared.token.Location.{Location}
use Rattle.pram_tokens.specs.declared.token.Token.{Token}
use Rattle.pram_tokens.specs.declared.token.Token.TheVariants as token
use Rattle.pram_trees.specs.declared.level.Level.TheVariants as level
use Rattle.pram_trees.specs.declared.tree.Expr.{Expr}
use Rattle.pram_trees.specs.declared.tree.Stmt.{Stmt}
use Rattle.pram_trees.specs.declared.tree.Stmt.TheVariants as s
use Rattle.pram_trees.specs.Grammar.{tokens, Fits}
use Rattle.pram_trees.specs.Blocks.{statement_tokens, block_tokens, local_tokens, IsStatement, assign, assign_element, print, while}
use Rattle.pram_trees.specs.Blocks.{if_then, if_else, for_to, pardo, AreStatements, IsFurtherBlock, IsBlock}
use Rattle.pram_trees.specs.Machine.{begins_statement, verdict, opened_verdict, statement_verdict}
use Rattle.pram_trees.specs.Symbols.{Stack, Operand, Want, Statements, AfterName, assignment, begins_with, Else, ForHead, WantAtMost}
use Rattle.pram_trees.specs.Symbols.{turns, range, enter, Locals, WantName}
use Rattle.pram_trees.specs.Follows.{Found, FoundThen, FoundBlock, FoundBody, FoundStatement, FoundTurns, FoundBounds, FoundLow, FoundHigh}
use Rattle.pram_trees.specs.Follows.{IsRange}
use Rattle.pram_trees.proofs.StmtTokens.{spell_assign, spell_assign_element, spell_print, spell_while, spell_if_then, spell_if_else}
use Rattle.pram_trees.proofs.StmtTokens.{spell_for, spell_pardo}

pub into_element : (b d : ℕ) (ts mid : List Token) → d ≢ 0 → ts ≡ token.Mark mark.OpenBracket ∷ mid → (k : Stack) →
    verdict ts (AfterName b d ∷ k) ≡ verdict mid (Operand level.Expression (d - 1) ∷ (Want mark.CloseBracket ∷ assignment d k))
into_element b zero ts mid some whole k = absurd (some refl)
into_element b (suc d) ts mid some whole k =
    ap (λ l. verdict l (AfterName b (suc d) ∷ k)) whole
    ∙ (let e : d ≡ suc d - 1 = omega arith in
    ap (λ n. verdict mid (Operand level.Expression n ∷ (Want mark.CloseBracket ∷ assignment (suc d) k))) e)

pub no_element : (b d : ℕ) (ts : List Token) → begins_with mark.OpenBracket ts ≡ false → (k : Stack) →
    verdict ts (AfterName b d ∷ k) ≡ verdict ts (assignment d k)
no_element b d [] h k = refl
no_element b d (t ∷ ts) h k = rw h

pub at_becomes : (ts mid : List Token) (k : Stack) → ts ≡ token.Mark mark.Becomes ∷ mid → verdict ts (Want mark.Becomes ∷ k) ≡ verdict mid k
at_becomes ts mid k whole = ap (λ l. verdict l (Want mark.Becomes ∷ k)) whole

pub found_assign : (b d : ℕ) (x y : Name) (v : Expr) (ts mid rest : List Token) → y ≡ x → ts ≡ token.Mark mark.Becomes ∷ mid →
    FoundThen level.Expression mark.Semicolon d mid v rest → FoundStatement b d (token.Name x ∷ []) ts (s.Assign y v) rest
found_assign b d x y v ts mid rest same whole h =
    subst (λ z. FoundStatement b d (token.Name x ∷ []) ts (s.Assign z v) rest) (sym same)
    (assign x v h.0, ap (λ l. token.Name x ∷ l) (whole ∙ ap (λ l. token.Mark mark.Becomes ∷ l) h.1) ∙ sym (spell_assign rest x v))

pub found_assign_element : (b d : ℕ) (x y : Name) (i v : Expr) (ts in_brackets mid further_on rest : List Token) → y ≡ x → d ≢ 0 →
    ts ≡ token.Mark mark.OpenBracket ∷ in_brackets →
    FoundThen level.Expression mark.CloseBracket (d - 1) in_brackets i mid → mid ≡ token.Mark mark.Becomes ∷ further_on →
    FoundThen level.Expression mark.Semicolon d further_on v rest →
    FoundStatement b d (token.Name x ∷ []) ts (s.AssignElement y i v) rest
found_assign_element b zero x y i v ts in_brackets mid further_on rest same some whole hi at hv = absurd (some refl)
found_assign_element b (suc d) x y i v ts in_brackets mid further_on rest same some whole hi at hv =
    let e : suc d - 1 ≡ d = omega arith in
    subst (λ z. FoundStatement b (suc d) (token.Name x ∷ []) ts (s.AssignElement z i v) rest) (sym same) (
      assign_element x i v (subst (λ n. Fits n level.Expression i) e hi.0) hv.0,
      ap (λ l. token.Name x ∷ l) (whole
          ∙ ap (λ l. token.Mark mark.OpenBracket ∷ l) (hi.1 ∙ ap (λ l. tokens i ++ (token.Mark mark.CloseBracket ∷ l)) (at
          ∙ ap (λ l. token.Mark mark.Becomes ∷ l) hv.1)))
          ∙ sym (spell_assign_element rest x i v),
    )

pub found_print : (b d : ℕ) (at : Location) (v : Expr) (ts rest : List Token) → FoundThen level.Expression mark.Semicolon d ts v rest →
    FoundStatement b d (token.Opening opening.Print at ∷ []) ts (s.Print at v) rest
found_print b d at v ts rest h = (print at v h.0, ap (λ l. token.Opening opening.Print at ∷ l) h.1 ∙ sym (spell_print rest at v))

inner_block : (b d : ℕ) (body : List Stmt) → b ≢ 0 → IsBlock (b - 1) d body → IsFurtherBlock b d body
inner_block zero d body some h = absurd (some refl)
inner_block (suc b) d body some h = let e : suc b - 1 ≡ b = omega arith in subst (λ n. IsBlock n d body) e h

pub found_while : (b d : ℕ) (at : Location) (c : Expr) (body : List Stmt) (ts mid rest : List Token) → b ≢ 0 →
    FoundThen level.Expression mark.Do d ts c mid → FoundBody (b - 1) d mid body rest →
    FoundStatement b d (token.Opening opening.While at ∷ []) ts (s.While at c body) rest
found_while b d at c body ts mid rest some hc hb = (
  while at c body hc.0 (inner_block b d body some hb.0),
  ap (λ l. token.Opening opening.While at ∷ l) (hc.1 ∙ ap (λ l. tokens c ++ (token.Mark mark.Do ∷ l)) hb.1)
      ∙ sym (spell_while rest at c body),
)

pub into_while : (b d left : ℕ) (ts : List Token) → b ≢ 0 → (k : Stack) →
    opened_verdict b d left opening.While ts k ≡ verdict ts (Operand level.Expression d
    ∷ (Want mark.Do ∷ (Statements (b - 1) d ∷ (Want mark.End ∷ k))))
into_while zero d left ts some k = absurd (some refl)
into_while (suc b) d left ts some k =
    let e : b ≡ suc b - 1 = omega arith in
    ap (λ n. verdict ts (Operand level.Expression d ∷ (Want mark.Do ∷ (Statements n d ∷ (Want mark.End ∷ k))))) e

pub found_print_at : (b d : ℕ) (at : Location) (o : Opening) (v : Expr) (ts rest : List Token) → o ≡ opening.Print →
    FoundThen level.Expression mark.Semicolon d ts v rest →
    FoundStatement b d (token.Opening o at ∷ []) ts (s.Print at v) rest
found_print_at b d at o v ts rest is h =
    subst (λ z. FoundStatement b d (token.Opening z at ∷ []) ts (s.Print at v) rest) (sym is) (found_print b d at v ts rest h)

pub into_if : (b d left : ℕ) (ts : List Token) → b ≢ 0 → (k : Stack) →
    opened_verdict b d left opening.If ts k ≡ verdict ts (Operand level.Expression d
    ∷ (Want mark.Then ∷ (Statements (b - 1) d ∷ (Else (b - 1) d ∷ (Want mark.End ∷ k)))))
into_if zero d left ts some k = absurd (some refl)
into_if (suc b) d left ts some k =
    let e : b ≡ suc b - 1 = omega arith in
    ap (λ n. verdict ts (Operand level.Expression d ∷ (Want mark.Then ∷ (Statements n d ∷ (Else n d ∷ (Want mark.End ∷ k)))))) e

pub at_else : (b d : ℕ) (ts mid : List Token) → ts ≡ token.Mark mark.Else ∷ mid → (k : Stack) →
    verdict ts (Else b d ∷ k) ≡ verdict mid (Statements b d ∷ k)
at_else b d ts mid whole k = ap (λ l. verdict l (Else b d ∷ k)) whole

pub no_else : (b d : ℕ) (ts : List Token) → begins_with mark.Else ts ≡ false → (k : Stack) → verdict ts (Else b d ∷ k) ≡ verdict ts k
no_else b d [] h k = refl
no_else b d (t ∷ ts) h k = rw h

pub found_if_then : (b d : ℕ) (at : Location) (c : Expr) (body : List Stmt) (ts mid further_on rest : List Token) → b ≢ 0 →
    FoundThen level.Expression mark.Then d ts c mid → FoundBlock (b - 1) d mid body further_on →
    further_on ≡ token.Mark mark.End ∷ rest → FoundStatement b d (token.Opening opening.If at ∷ []) ts (s.If at c body None) rest
found_if_then b d at c body ts mid further_on rest some hc hb closes = (
  if_then at c body hc.0 (inner_block b d body some hb.0),
  ap (λ l. token.Opening opening.If at ∷ l) (hc.1
      ∙ ap (λ l. tokens c ++ (token.Mark mark.Then ∷ l)) (hb.1 ∙ ap (λ l. block_tokens body ++ l) closes))
      ∙ sym (spell_if_then rest at c body),
)

pub found_if_else : (b d : ℕ) (at : Location) (c : Expr) (body other : List Stmt) (ts mid further_on furthest rest : List Token) → b ≢ 0 →
    FoundThen level.Expression mark.Then d ts c mid →
    FoundBlock (b - 1) d mid body further_on → further_on ≡ token.Mark mark.Else ∷ furthest → FoundBody (b - 1) d furthest other rest →
    FoundStatement b d (token.Opening opening.If at ∷ []) ts (s.If at c body (Some other)) rest
found_if_else b d at c body other ts mid further_on furthest rest some hc hb turns_at ho = (
  if_else at c body other hc.0 (inner_block b d body some hb.0) (inner_block b d other some ho.0),
  ap (λ l. token.Opening opening.If at ∷ l) (hc.1
      ∙ ap (λ l. tokens c ++ (token.Mark mark.Then ∷ l)) (hb.1
      ∙ ap (λ l. block_tokens body ++ l) (turns_at ∙ ap (λ l. token.Mark mark.Else ∷ l) ho.1)))
      ∙ sym (spell_if_else rest at c body other),
)

pub found_for : (b d : ℕ) (at : Location) (x y : Name) (low high : Expr) (body : List Stmt) (ts mid behind rest : List Token) → y ≡ x →
    b ≢ 0 →
    ts ≡ token.Name x ∷ (token.Mark mark.Becomes ∷ mid) → FoundTurns d mid low high behind → FoundBody (b - 1) d behind body rest →
    FoundStatement b d (token.Opening opening.For at ∷ []) ts (s.For at y low high body) rest
found_for b d at x y low high body ts mid behind rest same some whole h hb =
    subst (λ z. FoundStatement b d (token.Opening opening.For at ∷ []) ts (s.For at z low high body) rest) (sym same) (
      for_to at x low high body h.0 h.1 (inner_block b d body some hb.0),
      ap (λ l. token.Opening opening.For at ∷ l) (whole ∙ ap (λ l. token.Name x ∷ (token.Mark mark.Becomes ∷ l))
          (h.2 ∙ ap (λ l. tokens low ++ (token.Mark mark.To ∷ (tokens high ++ (token.Mark mark.Do ∷ l)))) hb.1))
          ∙ sym (spell_for rest at x low high body),
    )

pub into_for : (b d left : ℕ) (ts : List Token) → b ≢ 0 → (k : Stack) →
    opened_verdict b d left opening.For ts k ≡ verdict ts (ForHead (b - 1) d ∷ k)
into_for zero d left ts some k = absurd (some refl)
into_for (suc b) d left ts some k = let e : b ≡ suc b - 1 = omega arith in ap (λ n. verdict ts (ForHead n d ∷ k)) e

pub at_loop : (b d : ℕ) (x : Name) (ts mid : List Token) → ts ≡ token.Name x ∷ (token.Mark mark.Becomes ∷ mid) → (k : Stack) →
    verdict ts (ForHead b d ∷ k) ≡ verdict mid (turns b d k)
at_loop b d x ts mid whole k = ap (λ l. verdict l (ForHead b d ∷ k)) whole

pub found_high : (d : ℕ) (high : Expr) (names : List Name) (ts t1 t2 rest : List Token) → Found level.Sum d ts high t1 →
    t1 ≡ token.Mark mark.Pardo ∷ t2 → t2 ≡ local_tokens names ++ rest → FoundHigh d ts high names rest
found_high d high names ts t1 t2 rest hh a hn =
    (hh.0, hh.1 ∙ ap (λ l. tokens high ++ l) (a ∙ ap (λ l. token.Mark mark.Pardo ∷ l) hn))

pub found_low : (d : ℕ) (x y : Name) (low : Expr) (ts t1 t2 t3 rest : List Token) → y ≡ x →
    Found level.Sum d ts low t1 → t1 ≡ token.Binary op.AtMost ∷ t2 → t2 ≡ token.Name x ∷ t3 → t3 ≡ token.Binary op.AtMost ∷ rest →
    FoundLow d ts low y rest
found_low d x y low ts t1 t2 t3 rest same hl a1 a2 a3 =
    let e2 = a2 ∙ ap (λ l. token.Name x ∷ l) a3 in
    let e1 = hl.1 ∙ ap (λ l. tokens low ++ l) (a1 ∙ ap (λ l. token.Binary op.AtMost ∷ l) e2) in
    subst (λ z. FoundLow d ts low z rest) (sym same) (hl.0, e1)

pub found_bounds : (d : ℕ) (x : Name) (low high : Expr) (names : List Name) (ts mid rest : List Token) → FoundLow d ts low x mid →
    FoundHigh d mid high names rest → FoundBounds d ts low x high names rest
found_bounds d x low high names ts mid rest hl hh = (
  hl.0,
  hh.0,
  hl.1
      ∙ ap (λ l. tokens low ++ (token.Binary op.AtMost ∷ (token.Name x ∷ (token.Binary op.AtMost ∷ l)))) hh.1,
)

pub found_range : (b d : ℕ) (at : Location) (low : Expr) (x : Name) (high : Expr) (names : List Name) (body : List Stmt)
    (ts mid rest : List Token) → b ≢ 0 →
    FoundBounds d ts low x high names mid → FoundBody (b - 1) d mid body rest →
    FoundStatement b d (token.Opening opening.For at ∷ []) ts (s.Pardo at low x high names body) rest
found_range b d at low x high names body ts mid rest some h hb = (
  pardo at low x high names body h.0 h.1 (inner_block b d body some hb.0),
  ap (λ l. token.Opening opening.For at ∷ l) (h.2 ∙ ap (λ l. tokens low ++ (token.Binary op.AtMost ∷ (token.Name x ∷ (token.Binary op.AtMost
      ∷ (tokens high ++ (token.Mark mark.Pardo ∷ (local_tokens names ++ l))))))) hb.1)
      ∙ sym (spell_pardo rest at low x high names body),
)

local_tokens-push : (names : List Name) (x : Name) (ys : List Token) → local_tokens (names ++ x ∷ []) ++ ys
    ≡ local_tokens names ++ (token.Mark mark.Local ∷ (token.Name x ∷ (token.Mark mark.Semicolon ∷ ys)))
local_tokens-push [] x ys = refl
local_tokens-push (y ∷ rest) x ys =
    ap (λ l. token.Mark mark.Local ∷ (token.Name y ∷ (token.Mark mark.Semicolon ∷ l))) (local_tokens-push rest x ys)

pub more_locals : (names : List Name) (x y : Name) (ts t1 t2 t3 t4 : List Token) → y ≡ x → ts ≡ local_tokens names ++ t1 →
    t1 ≡ token.Mark mark.Local ∷ t2 → t2 ≡ token.Name x ∷ t3 →
    t3 ≡ token.Mark mark.Semicolon ∷ t4 → ts ≡ local_tokens (names ++ y ∷ []) ++ t4
more_locals names x y ts t1 t2 t3 t4 same whole a1 a2 a3 =
    whole ∙ ap (λ l. local_tokens names ++ l) (a1 ∙ ap (λ l. token.Mark mark.Local ∷ l) (a2 ∙ ap (λ l. token.Name x ∷ l) a3))
    ∙ sym (local_tokens-push names x t4) ∙ ap (λ z. local_tokens (names ++ z ∷ []) ++ t4) (sym same)

pub at_local : (ts mid : List Token) → ts ≡ token.Mark mark.Local ∷ mid → (k : Stack) →
    verdict ts (Locals ∷ k) ≡ verdict mid (WantName ∷ (Want mark.Semicolon ∷ (Locals ∷ k)))
at_local ts mid whole k = ap (λ l. verdict l (Locals ∷ k)) whole

pub range_by_name : (x : Name) (t : Token) (ts rest : List Token) → ts ≡ t ∷ rest → t ≡ token.Name x →
    begins_with mark.Becomes rest ≡ false → IsRange ts
unfolding enter
range_by_name x t ts [] whole is h = λ b d k. ap (λ l. verdict l (ForHead b d ∷ k)) (whole ∙ ap (λ v. v ∷ []) is)
    ∙ sym (ap (λ l. verdict l (Operand level.Sum d ∷ (WantAtMost ∷ range b d k))) (whole ∙ ap (λ v. v ∷ []) is))
range_by_name x t ts (y ∷ rest) whole is h = λ b d k.
    let e = whole ∙ ap (λ v. v ∷ (y ∷ rest)) is in
    ap (λ l. verdict l (ForHead b d ∷ k)) e ∙ rw h refl ∙ sym (ap (λ l. verdict l (Operand level.Sum d ∷ (WantAtMost ∷ range b d k))) e)

-- the loop over statements

pub AreStatements-push : (d : ℕ) (Inner : List Stmt → Type 0) (body : List Stmt) (x : Stmt) → AreStatements d Inner body →
    IsStatement d Inner x → AreStatements d Inner (body ++ x ∷ [])
AreStatements-push d Inner [] x h one = (one, tt)
AreStatements-push d Inner (y ∷ rest) x h one = (h.0, AreStatements-push d Inner rest x h.1 one)

block_tokens-push : (body : List Stmt) (x : Stmt) (ys : List Token) → block_tokens (body ++ x ∷ []) ++ ys ≡ block_tokens body
    ++ (statement_tokens x ++ ys)
block_tokens-push [] x ys = append_assoc (statement_tokens x) [] ys
block_tokens-push (y ∷ rest) x ys =
    append_assoc (statement_tokens y) (block_tokens (rest ++ x ∷ [])) ys ∙ ap (λ l. statement_tokens y ++ l) (block_tokens-push rest x ys)
    ∙ sym (append_assoc (statement_tokens y) (block_tokens rest) (statement_tokens x ++ ys))

pub spelt_more : (body : List Stmt) (x : Stmt) (ts mid after : List Token) → ts ≡ block_tokens body ++ mid → mid ≡ statement_tokens x
    ++ after → ts ≡ block_tokens (body ++ x ∷ []) ++ after
spelt_more body x ts mid after whole h = whole ∙ ap (λ l. block_tokens body ++ l) h ∙ sym (block_tokens-push body x after)

pub statement_first : (b d : ℕ) (ts : List Token) → begins_statement ts ≡ true → (k : Stack) →
    verdict ts (Statements b d ∷ k) ≡ statement_verdict b d ts (Statements b d ∷ k)
statement_first b d [] h k = cc
statement_first b d (token.Name x ∷ ts) h k = refl
statement_first b d (token.Opening opening.Print at ∷ ts) h k = refl
statement_first b d (token.Opening opening.While at ∷ ts) h k = refl
statement_first b d (token.Opening opening.If at ∷ ts) h k = refl
statement_first b d (token.Opening opening.For at ∷ ts) h k = refl
statement_first b d (t ∷ ts) h k = cc

pub no_statement : (b d : ℕ) (ts : List Token) → begins_statement ts ≡ false → (k : Stack) → verdict ts (Statements b d ∷ k) ≡ verdict ts k
no_statement b d [] h k = refl
no_statement b d (token.Name x ∷ ts) h k = cc
no_statement b d (token.Opening opening.Print at ∷ ts) h k = cc
no_statement b d (token.Opening opening.While at ∷ ts) h k = cc
no_statement b d (token.Opening opening.If at ∷ ts) h k = cc
no_statement b d (token.Opening opening.For at ∷ ts) h k = cc
no_statement b d (t ∷ ts) h k = refl

-- each statement is at least one token long
longer : (a b : List Token) → length b ≤ length (a ++ b)
longer a b = omega (arith, length-append a b)

pub shorter : {d : ℕ} {Inner : List Stmt → Type 0} {x : Stmt} (ts rest : List Token) → IsStatement d Inner x →
    ts ≡ statement_tokens x ++ rest → length rest < length ts
shorter ts rest (while at c body h g) is =
    let e = ap length (is ∙ spell_while rest at c body) in
    omega (
      arith,
      e,
      length-append (tokens c) (token.Mark mark.Do ∷ (block_tokens body ++ (token.Mark mark.End ∷ rest))),
      length-append (block_tokens body) (token.Mark mark.End ∷ rest),
    )
shorter ts rest (if_then at c body h g) is =
    let e = ap length (is ∙ spell_if_then rest at c body) in
    omega (
      arith,
      e,
      length-append (tokens c) (token.Mark mark.Then ∷ (block_tokens body ++ (token.Mark mark.End ∷ rest))),
      length-append (block_tokens body) (token.Mark mark.End ∷ rest),
    )
shorter ts rest (if_else at c body other h g f) is =
    let e = ap length (is ∙ spell_if_else rest at c body other) in
    let tail = token.Mark mark.Else ∷ (block_tokens other ++ (token.Mark mark.End ∷ rest)) in
    omega (
      arith,
      e,
      longer (tokens c) (token.Mark mark.Then ∷ (block_tokens body ++ tail)),
      longer (block_tokens body) tail,
      longer (block_tokens other) (token.Mark mark.End ∷ rest),
    )
shorter ts rest (for_to at x low high body h g f) is =
    let e = ap length (is ∙ spell_for rest at x low high body) in
    let tail = token.Mark mark.Do ∷ (block_tokens body ++ (token.Mark mark.End ∷ rest)) in
    omega (
      arith,
      e,
      longer (tokens low) (token.Mark mark.To ∷ (tokens high ++ tail)),
      longer (tokens high) tail,
      longer (block_tokens body) (token.Mark mark.End ∷ rest),
    )
shorter ts rest (pardo at low x high locals body h g f) is =
    let e = ap length (is ∙ spell_pardo rest at low x high locals body) in
    let tail = local_tokens locals ++ (block_tokens body ++ (token.Mark mark.End ∷ rest)) in
    omega (
      arith,
      e,
      longer (tokens low) (token.Binary op.AtMost
          ∷ (token.Name x ∷ (token.Binary op.AtMost ∷ (tokens high ++ (token.Mark mark.Pardo ∷ tail))))),
      longer (tokens high) (token.Mark mark.Pardo ∷ tail),
      longer (local_tokens locals) (block_tokens body ++ (token.Mark mark.End ∷ rest)),
      longer (block_tokens body) (token.Mark mark.End ∷ rest),
    )
shorter ts rest (assign x v h) is = let e = ap length (is ∙ spell_assign rest x v) in
    omega (arith, e, longer (tokens v) (token.Mark mark.Semicolon ∷ rest))
shorter ts rest (print at v h) is = let e = ap length (is ∙ spell_print rest at v) in
    omega (arith, e, longer (tokens v) (token.Mark mark.Semicolon ∷ rest))
shorter ts rest (assign_element x i v h g) is =
    let e = ap length (is ∙ spell_assign_element rest x i v) in
    let tail = token.Mark mark.Becomes ∷ (tokens v ++ (token.Mark mark.Semicolon ∷ rest)) in
    omega (arith, e, longer (tokens i) (token.Mark mark.CloseBracket ∷ tail), longer (tokens v) (token.Mark mark.Semicolon ∷ rest))
