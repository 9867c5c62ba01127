-- No list of tokens stands for two blocks.
use Rattle.std.proofs.Common.{◌≡◌, ℕ, zero, suc, false, List, [], ◌∷◌, ◌++◌, Some, None, refl, sym, ap, ◌∙◌, arith, append_assoc}
use Rattle.pram_tokens.specs.declared.token.Binary.TheVariants as op
use Rattle.pram_tokens.specs.declared.token.Mark.{Mark}
use Rattle.pram_tokens.specs.declared.token.Mark.TheVariants as mark
use Rattle.pram_tokens.specs.declared.token.Name.{Name}
use Rattle.pram_tokens.specs.declared.token.Opening.TheVariants as opening
use Rattle.pram_tokens.specs.declared.token.Token.{Token}
use Rattle.pram_tokens.specs.declared.token.Token.TheVariants as token
use Rattle.pram_trees.specs.declared.level.Level.TheVariants as level
use Rattle.pram_trees.specs.declared.tree.Expr.{Expr}
use Rattle.pram_trees.specs.declared.tree.Stmt.{Stmt}
use Rattle.pram_trees.specs.declared.tree.Stmt.TheVariants as s
use Rattle.pram_trees.specs.Grammar.{tokens, Fits, Further}
use Rattle.pram_trees.specs.Blocks.{statement_tokens, block_tokens, local_tokens, IsStatement, assign, assign_element, print, while}
use Rattle.pram_trees.specs.Blocks.{if_then, if_else, for_to, pardo, AreStatements, IsFurtherBlock, IsBlock}
use Rattle.pram_trees.specs.Symbols.{is_subscript}
use Rattle.pram_parser.proofs.ExprReading.{StopsAt, mark_stops}
use Rattle.pram_parser.proofs.ExprUnique.{same}
use Rattle.pram_parser.proofs.StmtReading.{EndsBlock, EndsBlockAt, no_becomes}
use Rattle.pram_trees.proofs.StmtTokens.{spell_assign, spell_assign_element, spell_print, spell_while, spell_if_then, spell_if_else}
use Rattle.pram_trees.proofs.StmtTokens.{spell_for, spell_pardo}

further_same : (d e : ℕ) (m : Mark) (x y : Expr) → is_subscript (token.Mark m) ≡ false → Further d level.Expression x →
    Further e level.Expression y → (xs ys : List Token) →
    tokens x ++ (token.Mark m ∷ xs) ≡ tokens y ++ (token.Mark m ∷ ys) → (x ≡ y) × (xs ≡ ys)
further_same zero e m x y ends hx hy xs ys eq = absurd hx
further_same (suc d) zero m x y ends hx hy xs ys eq = absurd hy
further_same (suc d) (suc e) m x y ends hx hy xs ys eq =
    let b = same d e level.Expression x y hx hy (token.Mark m ∷ xs) (token.Mark m ∷ ys) (mark_stops m ends) (mark_stops m ends) eq in
    let behind = b.1 in (b.0, cc)

upto_same : (d e : ℕ) (m : Mark) (x y : Expr) → is_subscript (token.Mark m) ≡ false → Fits d level.Expression x →
    Fits e level.Expression y → (xs ys : List Token) →
    tokens x ++ (token.Mark m ∷ xs) ≡ tokens y ++ (token.Mark m ∷ ys) → (x ≡ y) × (xs ≡ ys)
upto_same d e m x y ends hx hy = further_same (suc d) (suc e) m x y ends hx hy

sum_same : (d e : ℕ) (x y : Expr) → Fits d level.Sum x → Fits e level.Sum y → (t : Token) → StopsAt level.Sum (t ∷ []) →
    (xs ys : List Token) →
    tokens x ++ (t ∷ xs) ≡ tokens y ++ (t ∷ ys) → (x ≡ y) × (xs ≡ ys)
sum_same d e x y hx hy t stop xs ys eq =
    let b = same d e level.Sum x y hx hy (t ∷ xs) (t ∷ ys) stop stop eq in
    let behind = b.1 in (b.0, cc)

-- the first token of a statement, by a number

abbrev kind : Token → ℕ
kind (token.Name x) = 0
kind (token.Opening opening.Print at) = 1
kind (token.Opening opening.While at) = 2
kind (token.Opening opening.If at) = 3
kind (token.Opening opening.For at) = 4
kind _ = 9

abbrev form : {d : ℕ} {I : List Stmt → Type 0} {x : Stmt} → IsStatement d I x → ℕ
form (assign x v h) = 0
form (assign_element x i v h g) = 0
form (print at v h) = 1
form (while at c body h g) = 2
form (if_then at c body h g) = 3
form (if_else at c body other h g f) = 3
form (for_to at x low high body h g f) = 4
form (pardo at low x high names body h g f) = 4

first : {d : ℕ} {I : List Stmt → Type 0} {x : Stmt} (h : IsStatement d I x) (xs : List Token) → (t : Token) × (r : List Token)
    × (statement_tokens x ++ xs ≡ t ∷ r) × (kind t ≡ form h)
first (assign x v h) xs = (_, _, spell_assign xs x v, refl)
first (assign_element x i v h g) xs = (_, _, spell_assign_element xs x i v, refl)
first (print at v h) xs = (_, _, spell_print xs at v, refl)
first (while at c body h g) xs = (_, _, spell_while xs at c body, refl)
first (if_then at c body h g) xs = (_, _, spell_if_then xs at c body, refl)
first (if_else at c body other h g f) xs = (_, _, spell_if_else xs at c body other, refl)
first (for_to at x low high body h g f) xs = (_, _, spell_for xs at x low high body, refl)
first (pardo at low x high names body h g f) xs = (_, _, spell_pardo xs at low x high names body, refl)

forms : {d e : ℕ} {I J : List Stmt → Type 0} {x y : Stmt} (h : IsStatement d I x) (g : IsStatement e J y) (xs ys : List Token) →
    statement_tokens x ++ xs ≡ statement_tokens y ++ ys → form h ≡ form g
forms h g xs ys eq =
    let a = first h xs in
    let b = first g ys in
    let both : a.0 ∷ a.1 ≡ b.0 ∷ b.1 = sym a.2 ∙ eq ∙ b.2 in
    let heads : a.0 ≡ b.0 = cc in
    sym a.3 ∙ ap kind heads ∙ b.3

-- what ends a block begins no statement
no_statement : {d : ℕ} {I : List Stmt → Type 0} {x : Stmt} → IsStatement d I x → (xs ys : List Token) → EndsBlockAt xs →
    xs ≡ statement_tokens x ++ ys → ⊥
no_statement h [] ys never eq = never
no_statement {d} {I} {x} h (t ∷ r) ys ends eq = at t ends (ap kind heads ∙ f.3)
  where
    f : (t : Token) × (r : List Token) × (statement_tokens x ++ ys ≡ t ∷ r) × (kind t ≡ form h)
    f = first h ys

    heads : t ≡ f.0
    heads = let both : t ∷ r ≡ f.0 ∷ f.1 = eq ∙ f.2 in cc

    neither : {y : Stmt} (g : IsStatement d I y) → 9 ≡ form g → ⊥
    neither (assign x v h) e = omega (arith, e)
    neither g e = omega (arith, e)

    at : (u : Token) → EndsBlock u → kind u ≡ form h → ⊥
    at (token.Mark mark.End) p e = neither h e
    at (token.Mark mark.Else) p e = neither h e
    at u never e = never

-- a block with its end is no further local
NoLocal : List Token → Type 0
NoLocal zs = (r : List Token) → zs ≡ token.Mark mark.Local ∷ r → ⊥

no_local : (d : ℕ) (I : List Stmt → Type 0) (body : List Stmt) → AreStatements d I body → (xs : List Token) →
    NoLocal (block_tokens body ++ (token.Mark mark.End ∷ xs))
unfolding NoLocal
no_local d I [] h xs = λ r eq. cc
no_local d I (x ∷ rest) h xs = λ r eq.
    let f = first h.0 (block_tokens rest ++ (token.Mark mark.End ∷ xs)) in
    let both : f.0 ∷ f.1 ≡ token.Mark mark.Local ∷ r =
    sym f.2 ∙ sym (append_assoc (statement_tokens x) (block_tokens rest) (token.Mark mark.End ∷ xs)) ∙ eq in
    let heads : f.0 ≡ token.Mark mark.Local = cc in
    never h.0 (sym f.3 ∙ ap kind heads)
  where
    never : {y : Stmt} (g : IsStatement d I y) → form g ≡ 9 → ⊥
    never (assign x v h) e = omega (arith, e)
    never g e = omega (arith, e)

same_locals : (a b : List Name) (zs ws : List Token) → NoLocal zs → NoLocal ws → local_tokens a ++ zs ≡ local_tokens b ++ ws →
    (a ≡ b) × (zs ≡ ws)
unfolding NoLocal
same_locals [] [] zs ws p q eq = (refl, eq)
same_locals [] (y ∷ b) zs ws p q eq = absurd (p _ eq)
same_locals (x ∷ a) [] zs ws p q eq = absurd (q _ (sym eq))
same_locals (x ∷ a) (y ∷ b) zs ws p q eq =
    let names : x ≡ y = cc in
    let more = same_locals a b zs ws p q cc in
    (ap (λ n. n ∷ a) names ∙ ap (λ l. y ∷ l) more.0, more.1)

module _ (d e : ℕ) (I J : List Stmt → Type 0)
    (inner : (x y : List Stmt) → I x → J y → (xs ys : List Token) → EndsBlockAt xs → EndsBlockAt ys → block_tokens x ++ xs ≡ block_tokens y
    ++ ys → (x ≡ y) × (xs ≡ ys))
    (is_i : (x : List Stmt) → I x → (n : ℕ) × AreStatements d (IsFurtherBlock n d) x) (is_j : (y : List Stmt) → J y →
    (n : ℕ) × AreStatements e (IsFurtherBlock n e) y) where
  no_mix : (x : Name) (low : Expr) (n : ℕ) → Fits n level.Sum low → (z ws : List Token) →
      token.Name x ∷ (token.Mark mark.Becomes ∷ z) ≡ tokens low ++ (token.Binary op.AtMost ∷ ws) → ⊥
  no_mix x low n h z ws eq = by (tokens low) refl eq
    where
      by : (l : List Token) → tokens low ≡ l → token.Name x ∷ (token.Mark mark.Becomes ∷ z) ≡ l ++ (token.Binary op.AtMost ∷ ws) → ⊥
      by [] is eq = cc
      by (t ∷ r) is eq =
          let head : t ≡ token.Name x = cc in
          no_becomes n low h x r ws (is ∙ ap (λ v. v ∷ r) head) z cc

  same_statement : (x y : Stmt) → IsStatement d I x → IsStatement e J y → (xs ys : List Token) →
      statement_tokens x ++ xs ≡ statement_tokens y ++ ys → (x ≡ y) × (xs ≡ ys)
  same_statement _ _ (assign x v h) (assign y w g) xs ys eq =
      let q = sym (spell_assign xs x v) ∙ eq ∙ spell_assign ys y w in
      let n : x ≡ y = cc in
      let b = upto_same d e mark.Semicolon v w refl h g xs ys cc in
      (ap (λ z. s.Assign z v) n ∙ ap (s.Assign y) b.0, b.1)
  same_statement _ _ (assign x v h) (assign_element y j w g f) xs ys eq = let q = sym (spell_assign xs x v) ∙ eq
      ∙ spell_assign_element ys y j w in absurd cc
  same_statement _ _ (assign_element x i v h k) (assign y w g) xs ys eq = let q = sym (spell_assign_element xs x i v) ∙ eq
      ∙ spell_assign ys y w in absurd cc
  same_statement _ _ (assign_element x i v h k) (assign_element y j w g f) xs ys eq =
      let q = sym (spell_assign_element xs x i v) ∙ eq ∙ spell_assign_element ys y j w in
      let n : x ≡ y = cc in
      let a = further_same d e mark.CloseBracket i j refl h g (token.Mark mark.Becomes ∷ (tokens v ++ (token.Mark mark.Semicolon ∷ xs)))
      (token.Mark mark.Becomes ∷ (tokens w ++ (token.Mark mark.Semicolon ∷ ys))) cc in
      let r = a.1 in
      let b = upto_same d e mark.Semicolon v w refl k f xs ys cc in
      (ap (λ z. s.AssignElement z i v) n ∙ ap (λ z. s.AssignElement y z v) a.0 ∙ ap (s.AssignElement y j) b.0, b.1)
  same_statement _ _ (print at v h) (print there w g) xs ys eq =
      let q = sym (spell_print xs at v) ∙ eq ∙ spell_print ys there w in
      let b = upto_same d e mark.Semicolon v w refl h g xs ys cc in
      let place : at ≡ there = cc in
      (ap (λ z. s.Print z v) place ∙ ap (s.Print there) b.0, b.1)
  same_statement _ _ (while at c body h k) (while there second_test second_body g f) xs ys eq =
      let q = sym (spell_while xs at c body) ∙ eq ∙ spell_while ys there second_test second_body in
      let a = upto_same d e mark.Do c second_test refl h g (block_tokens body ++ (token.Mark mark.End ∷ xs)) (block_tokens second_body
      ++ (token.Mark mark.End ∷ ys)) cc in
      let b = inner body second_body k f (token.Mark mark.End ∷ xs) (token.Mark mark.End ∷ ys) tt tt a.1 in
      let r = b.1 in
      let place : at ≡ there = cc in
      (ap (λ z. s.While z c body) place ∙ ap (λ z. s.While there z body) a.0 ∙ ap (s.While there second_test) b.0, cc)
  same_statement _ _ (if_then at c body h k) (if_then there second_test second_body g f) xs ys eq =
      let q = sym (spell_if_then xs at c body) ∙ eq ∙ spell_if_then ys there second_test second_body in
      let a = upto_same d e mark.Then c second_test refl h g (block_tokens body ++ (token.Mark mark.End ∷ xs)) (block_tokens second_body
      ++ (token.Mark mark.End ∷ ys)) cc in
      let b = inner body second_body k f (token.Mark mark.End ∷ xs) (token.Mark mark.End ∷ ys) tt tt a.1 in
      let r = b.1 in
      let place : at ≡ there = cc in
      (ap (λ z. s.If z c body None) place ∙ ap (λ z. s.If there z body None) a.0 ∙ ap (λ z. s.If there second_test z None) b.0, cc)
  same_statement _ _ (if_then at c body h k) (if_else there second_test second_body second_other g f l) xs ys eq =
      let q = sym (spell_if_then xs at c body) ∙ eq ∙ spell_if_else ys there second_test second_body second_other in
      let tail = token.Mark mark.Else ∷ (block_tokens second_other ++ (token.Mark mark.End ∷ ys)) in
      let a = upto_same d e mark.Then c second_test refl h g (block_tokens body ++ (token.Mark mark.End ∷ xs)) (block_tokens second_body
      ++ tail) cc in
      let r = (inner body second_body k f (token.Mark mark.End ∷ xs) tail tt tt a.1).1 in absurd cc
  same_statement _ _ (if_else at c body other h k l) (if_then there second_test second_body g f) xs ys eq =
      let q = sym (spell_if_else xs at c body other) ∙ eq ∙ spell_if_then ys there second_test second_body in
      let tail = token.Mark mark.Else ∷ (block_tokens other ++ (token.Mark mark.End ∷ xs)) in
      let a = upto_same d e mark.Then c second_test refl h g (block_tokens body ++ tail) (block_tokens second_body
      ++ (token.Mark mark.End ∷ ys)) cc in
      let r = (inner body second_body k f tail (token.Mark mark.End ∷ ys) tt tt a.1).1 in absurd cc
  same_statement _ _ (if_else at c body other h k l) (if_else there second_test second_body second_other g f m) xs ys eq =
      let q = sym (spell_if_else xs at c body other) ∙ eq ∙ spell_if_else ys there second_test second_body second_other in
      let tail = token.Mark mark.Else ∷ (block_tokens other ++ (token.Mark mark.End ∷ xs)) in
      let second_tail = token.Mark mark.Else ∷ (block_tokens second_other ++ (token.Mark mark.End ∷ ys)) in
      let a = upto_same d e mark.Then c second_test refl h g (block_tokens body ++ tail) (block_tokens second_body ++ second_tail) cc in
      let b = inner body second_body k f tail second_tail tt tt a.1 in
      let r = b.1 in
      let o = inner other second_other l m (token.Mark mark.End ∷ xs) (token.Mark mark.End ∷ ys) tt tt cc in
      let t = o.1 in
      let place : at ≡ there = cc in (
        ap (λ z. s.If z c body (Some other)) place ∙ ap (λ z. s.If there z body (Some other)) a.0
            ∙ ap (λ z. s.If there second_test z (Some other)) b.0
            ∙ ap (λ z. s.If there second_test second_body (Some z)) o.0,
        cc,
      )
  same_statement _ _ (for_to at x low high body h k l) (for_to there y second_low second_high second_body g f m) xs ys eq =
      let q = sym (spell_for xs at x low high body) ∙ eq ∙ spell_for ys there y second_low second_high second_body in
      let n : x ≡ y = cc in
      let tail = tokens high ++ (token.Mark mark.Do ∷ (block_tokens body ++ (token.Mark mark.End ∷ xs))) in
      let second_tail = tokens second_high ++ (token.Mark mark.Do ∷ (block_tokens second_body ++ (token.Mark mark.End ∷ ys))) in
      let a = upto_same d e mark.To low second_low refl h g tail second_tail cc in
      let b = upto_same d e mark.Do high second_high refl k f (block_tokens body ++ (token.Mark mark.End ∷ xs)) (block_tokens second_body
      ++ (token.Mark mark.End ∷ ys)) a.1 in
      let o = inner body second_body l m (token.Mark mark.End ∷ xs) (token.Mark mark.End ∷ ys) tt tt b.1 in
      let t = o.1 in
      let place : at ≡ there = cc in (
        ap (λ z. s.For z x low high body) place ∙ ap (λ z. s.For there z low high body) n ∙ ap (λ z. s.For there y z high body) a.0
            ∙ ap (λ z. s.For there y second_low z body) b.0 ∙ ap (s.For there y second_low second_high) o.0,
        cc,
      )
  same_statement _ _ (for_to at x low high body h k l) (pardo there second_low y second_high second_names second_body g f m) xs ys eq =
      let q = sym (spell_for xs at x low high body) ∙ eq ∙ spell_pardo ys there second_low y second_high second_names second_body in
      absurd (no_mix x second_low e g (tokens low
      ++ (token.Mark mark.To ∷ (tokens high ++ (token.Mark mark.Do ∷ (block_tokens body ++ (token.Mark mark.End ∷ xs))))))
      (token.Name y ∷ (token.Binary op.AtMost
      ∷ (tokens second_high ++ (token.Mark mark.Pardo
      ∷ (local_tokens second_names ++ (block_tokens second_body ++ (token.Mark mark.End ∷ ys))))))) cc)
  same_statement _ _ (pardo at low x high names body h k l) (for_to there y second_low second_high second_body g f m) xs ys eq =
      let q = sym (spell_pardo xs at low x high names body) ∙ eq ∙ spell_for ys there y second_low second_high second_body in
      absurd (no_mix y low d h (tokens second_low
      ++ (token.Mark mark.To ∷ (tokens second_high ++ (token.Mark mark.Do ∷ (block_tokens second_body ++ (token.Mark mark.End ∷ ys))))))
      (token.Name x ∷ (token.Binary op.AtMost
      ∷ (tokens high ++ (token.Mark mark.Pardo ∷ (local_tokens names ++ (block_tokens body ++ (token.Mark mark.End ∷ xs))))))) cc)
  same_statement _ _ (pardo at low x high names body h k l) (pardo there second_low y second_high second_names second_body g f m) xs ys eq =
      let q = sym (spell_pardo xs at low x high names body) ∙ eq ∙ spell_pardo ys there second_low y second_high second_names second_body in
      let inside = block_tokens body ++ (token.Mark mark.End ∷ xs) in
      let second_inside = block_tokens second_body ++ (token.Mark mark.End ∷ ys) in
      let tail = tokens high ++ (token.Mark mark.Pardo ∷ (local_tokens names ++ inside)) in
      let second_tail = tokens second_high ++ (token.Mark mark.Pardo ∷ (local_tokens second_names ++ second_inside)) in
      let a = sum_same d e low second_low h g (token.Binary op.AtMost) (refl, (refl, refl)) (token.Name x
      ∷ (token.Binary op.AtMost ∷ tail)) (token.Name y ∷ (token.Binary op.AtMost ∷ second_tail)) cc in
      let r = a.1 in
      let n : x ≡ y = cc in
      let b = sum_same d e high second_high k f (token.Mark mark.Pardo) (refl, (refl, refl)) (local_tokens names
      ++ inside) (local_tokens second_names ++ second_inside) cc in
      let known = is_i body l in
      let second_known = is_j second_body m in
      let c = same_locals names second_names inside second_inside (no_local d (IsFurtherBlock known.0 d) body known.1 xs)
      (no_local e (IsFurtherBlock second_known.0 e) second_body second_known.1 ys) b.1 in
      let o = inner body second_body l m (token.Mark mark.End ∷ xs) (token.Mark mark.End ∷ ys) tt tt c.1 in
      let t = o.1 in
      let place : at ≡ there = cc in (
        ap (λ z. s.Pardo z low x high names body) place ∙ ap (λ z. s.Pardo there z x high names body) a.0
            ∙ ap (λ z. s.Pardo there second_low z high names body) n
            ∙ ap (λ z. s.Pardo there second_low y z names body) b.0 ∙ ap (λ z. s.Pardo there second_low y second_high z body) c.0
            ∙ ap (s.Pardo there second_low y second_high second_names) o.0,
        cc,
      )
  same_statement x y h g xs ys eq = let k = forms h g xs ys eq in absurd (omega (arith, k))

  same_block : (x y : List Stmt) → AreStatements d I x → AreStatements e J y → (xs ys : List Token) → EndsBlockAt xs → EndsBlockAt ys →
      block_tokens x ++ xs ≡ block_tokens y ++ ys → (x ≡ y) × (xs ≡ ys)
  same_block [] [] h g xs ys p q eq = (refl, eq)
  same_block [] (y ∷ b) h g xs ys p q eq =
      absurd (no_statement g.0 xs (block_tokens b ++ ys) p (eq ∙ append_assoc (statement_tokens y) (block_tokens b) ys))
  same_block (x ∷ a) [] h g xs ys p q eq =
      absurd (no_statement h.0 ys (block_tokens a ++ xs) q (sym eq ∙ append_assoc (statement_tokens x) (block_tokens a) xs))
  same_block (x ∷ a) (y ∷ b) h g xs ys p q eq =
      let one = same_statement x y h.0 g.0 (block_tokens a ++ xs) (block_tokens b
      ++ ys) (sym (append_assoc (statement_tokens x) (block_tokens a) xs) ∙ eq
      ∙ append_assoc (statement_tokens y) (block_tokens b) ys) in
      let more = same_block a b h.1 g.1 xs ys p q one.1 in
      (ap (λ z. z ∷ a) one.0 ∙ ap (λ l. y ∷ l) more.0, more.1)

blocks_same : (b c d e : ℕ) (x y : List Stmt) → IsFurtherBlock b d x → IsFurtherBlock c e y → (xs ys : List Token) → EndsBlockAt xs →
    EndsBlockAt ys → block_tokens x ++ xs ≡ block_tokens y ++ ys → (x ≡ y) × (xs ≡ ys)
blocks_same zero c d e x y never g = absurd never
blocks_same (suc b) zero d e x y h never = absurd never
blocks_same (suc b) (suc c) d e x y h g =
    same_block d e (IsFurtherBlock b d) (IsFurtherBlock c e) (blocks_same b c d e) (is_block b d) (is_block c e) x y h g
  where
    is_block : (b d : ℕ) (x : List Stmt) → IsFurtherBlock b d x → (n : ℕ) × AreStatements d (IsFurtherBlock n d) x
    is_block zero d x never = absurd never
    is_block (suc b) d x h = (b, h)

pub program_same : (b c d e : ℕ) (x y : List Stmt) → IsBlock b d x → IsBlock c e y → block_tokens x ++ token.Mark mark.End
    ∷ [] ≡ block_tokens y ++ token.Mark mark.End ∷ [] → x ≡ y
program_same b c d e x y h g eq = (blocks_same (suc b) (suc c) d e x y h g (token.Mark mark.End ∷ []) (token.Mark mark.End ∷ []) tt tt eq).0
