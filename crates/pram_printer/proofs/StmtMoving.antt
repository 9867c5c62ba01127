-- Statements, declarations and programs with the same tokens at other places.
use Rattle.std.proofs.Common.{◌≡◌, ℕ, zero, suc, List, [], ◌∷◌, ◌++◌, Some, None, map, refl, sym, ap, ◌∙◌, append_assoc}
use Rattle.std.proofs.lemmas.List.{append-nil}
use Rattle.pram_tokens.specs.declared.token.Binary.TheVariants as op
use Rattle.pram_tokens.specs.declared.token.Location.{Location}
use Rattle.pram_tokens.specs.declared.token.Mark.{Mark}
use Rattle.pram_tokens.specs.declared.token.Mark.TheVariants as mark
use Rattle.pram_tokens.specs.declared.token.Name.{Name}
use Rattle.pram_tokens.specs.declared.token.Opening.TheVariants as opening
use Rattle.pram_tokens.specs.declared.token.Token.{Token}
use Rattle.pram_tokens.specs.declared.token.Token.TheVariants as token
use Rattle.pram_trees.specs.declared.level.Level.TheVariants as level
use Rattle.pram_trees.specs.declared.tree.Declaration.{Declaration}
use Rattle.pram_trees.specs.declared.tree.Declaration.TheVariants as d
use Rattle.pram_trees.specs.declared.tree.Expr.{Expr}
use Rattle.pram_trees.specs.declared.tree.Stmt.{Stmt}
use Rattle.pram_trees.specs.declared.tree.Stmt.TheVariants as s
use Rattle.pram_trees.specs.declared.tree.Stmt.TheOpen.{Stmt-F}
use Rattle.pram_trees.specs.declared.tree.Stmt.TheFolds.{fold-roll-Stmt}
use Rattle.pram_trees.specs.Blocks.{statement_tokens, block_tokens, local_tokens, IsStatement, assign, assign_element, print, while}
use Rattle.pram_trees.specs.Blocks.{if_then, if_else, for_to, pardo, AreStatements, IsFurtherBlock, IsBlock}
use Rattle.pram_trees.specs.Grammar.{tokens, Fits, Further}
use Rattle.pram_printer.specs.Places.{bare_expr, bare_name, bare_number, bare_statement, bare_step, bare_declaration, start}
use Rattle.pram_printer.specs.Places.{without_locations}
use Rattle.pram_model.specs.Rules.{rule_word}
use Rattle.pram_trees.specs.Program.{ProgramTree, declaration_tokens, declarations_tokens, program_tokens, tree_of}
use Rattle.pram_printer.proofs.Moving.{Like, Moves, fits_moves, further_moves, fixed_binary, fixed_mark, like_as, like_fixed, like_name}
use Rattle.pram_printer.proofs.Moving.{like_none, like_number, like_opening, like_part}
use Rattle.pram_trees.proofs.StmtTokens.{spell_assign, spell_assign_element, spell_print, spell_while, spell_if_then, spell_if_else}
use Rattle.pram_trees.proofs.StmtTokens.{spell_for, spell_pardo}

-- Each form of statement at the start of a text.

pub bare-assign : (x : Name) (v : Expr) → bare_statement (s.Assign x v) ≡ s.Assign (bare_name x) (bare_expr v)
unfolding bare_statement
bare-assign x v = ap bare_statement (sym (s.rolls-Assign x v)) ∙ fold-roll-Stmt Stmt bare_step (Stmt-F.Assign x v)

pub bare-assign_element : (x : Name) (i v : Expr) → bare_statement (s.AssignElement x i v) ≡ s.AssignElement (bare_name x) (bare_expr i)
    (bare_expr v)
unfolding bare_statement
bare-assign_element x i v = ap bare_statement (sym (s.rolls-AssignElement x i v))
    ∙ fold-roll-Stmt Stmt bare_step (Stmt-F.AssignElement x i v)

pub bare-print : (at : Location) (v : Expr) → bare_statement (s.Print at v) ≡ s.Print start (bare_expr v)
unfolding bare_statement
bare-print at v = ap bare_statement (sym (s.rolls-Print at v)) ∙ fold-roll-Stmt Stmt bare_step (Stmt-F.Print at v)

pub bare-while : (at : Location) (c : Expr) (body : List Stmt) → bare_statement (s.While at c body) ≡ s.While start (bare_expr c)
    (map bare_statement body)
unfolding bare_statement
bare-while at c body = ap bare_statement (sym (s.rolls-While at c body)) ∙ fold-roll-Stmt Stmt bare_step (Stmt-F.While at c body)

pub bare-if_then : (at : Location) (c : Expr) (body : List Stmt) → bare_statement (s.If at c body None) ≡ s.If start (bare_expr c)
    (map bare_statement body) None
unfolding bare_statement
bare-if_then at c body = ap bare_statement (sym (s.rolls-If at c body None)) ∙ fold-roll-Stmt Stmt bare_step (Stmt-F.If at c body None)

pub bare-if_else : (at : Location) (c : Expr) (body other : List Stmt) →
    bare_statement (s.If at c body (Some other)) ≡ s.If start (bare_expr c) (map bare_statement body) (Some (map bare_statement other))
unfolding bare_statement
bare-if_else at c body other = ap bare_statement (sym (s.rolls-If at c body (Some other)))
    ∙ fold-roll-Stmt Stmt bare_step (Stmt-F.If at c body (Some other))

pub bare-for : (at : Location) (x : Name) (low high : Expr) (body : List Stmt) →
    bare_statement (s.For at x low high body) ≡ s.For start (bare_name x) (bare_expr low) (bare_expr high) (map bare_statement body)
unfolding bare_statement
bare-for at x low high body = ap bare_statement (sym (s.rolls-For at x low high body))
    ∙ fold-roll-Stmt Stmt bare_step (Stmt-F.For at x low high body)

pub bare-pardo : (at : Location) (low : Expr) (x : Name) (high : Expr) (locals : List Name) (body : List Stmt) →
    bare_statement (s.Pardo at low x high locals body) ≡ s.Pardo start (bare_expr low) (bare_name x) (bare_expr high) (map bare_name locals)
    (map bare_statement body)
unfolding bare_statement
bare-pardo at low x high locals body =
    ap bare_statement (sym (s.rolls-Pardo at low x high locals body))
    ∙ fold-roll-Stmt Stmt bare_step (Stmt-F.Pardo at low x high locals body)

-- Parts at the front of a list, each with what stands behind it.

-- an expression at the front
pub record MovedFront (P : Expr → Type 0) (x : Expr) (us ts : List Token) : Type 0 where
  pub there : Expr
  pub fits : P there
  pub rest : List Token
  pub has : ts ≡ tokens there ++ rest
  pub same : bare_expr there ≡ bare_expr x
  pub like : Like rest us

expr_front : (P : Expr → Type 0) (x : Expr) (us ts : List Token) → Moves P x → Like ts (tokens x ++ us) → MovedFront P x us ts
expr_front P x us ts moves same =
    let p = like_part (tokens x) us ts same in
    let m = moves p.0 p.3 in
    record { there = m.there; fits = m.fits; rest = p.1; has = p.2 ∙ ap (λ v. v ++ p.1) (sym m.has); same = m.same; like = p.4 }

mark_front : (m : Mark) (us ts : List Token) → Like ts (token.Mark m ∷ us) → (rest : List Token) × (ts ≡ token.Mark m ∷ rest) × Like rest us
mark_front m us ts same = like_fixed (token.Mark m) (fixed_mark m) us ts same

-- a statement of those tokens, which is x but for locations
record MovedStatement (P : Stmt → Type 0) (x : Stmt) (ts : List Token) : Type 0 where
  there : Stmt
  fits : P there
  has : statement_tokens there ≡ ts
  same : bare_statement there ≡ bare_statement x

-- the same for statements
pub record MovedBlock (P : List Stmt → Type 0) (body : List Stmt) (ts : List Token) : Type 0 where
  pub there : List Stmt
  pub fits : P there
  pub has : block_tokens there ≡ ts
  pub same : map bare_statement there ≡ map bare_statement body

record MovedBlockFront (P : List Stmt → Type 0) (body : List Stmt) (us ts : List Token) : Type 0 where
  there : List Stmt
  fits : P there
  rest : List Token
  has : ts ≡ block_tokens there ++ rest
  same : map bare_statement there ≡ map bare_statement body
  like : Like rest us

abbrev pub MovesBlock : (List Stmt → Type 0) → List Stmt → Type 0
MovesBlock P body = (ts : List Token) → Like ts (block_tokens body) → MovedBlock P body ts

block_front : (P : List Stmt → Type 0) (body : List Stmt) (us ts : List Token) → MovesBlock P body → Like ts (block_tokens body ++ us) →
    MovedBlockFront P body us ts
block_front P body us ts moves same =
    let p = like_part (block_tokens body) us ts same in
    let m = moves p.0 p.3 in
    record { there = m.there; fits = m.fits; rest = p.1; has = p.2 ∙ ap (λ v. v ++ p.1) (sym m.has); same = m.same; like = p.4 }

record MovedLocals (names : List Name) (us ts : List Token) : Type 0 where
  there : List Name
  rest : List Token
  has : ts ≡ local_tokens there ++ rest
  same : map bare_name there ≡ map bare_name names
  like : Like rest us

locals_front : (names : List Name) (us ts : List Token) → Like ts (local_tokens names ++ us) → MovedLocals names us ts
locals_front [] us ts same = record { there = []; rest = ts; has = refl; same = refl; like = same }
locals_front (x ∷ names) us ts same =
    let a = mark_front mark.Local (token.Name x ∷ (token.Mark mark.Semicolon ∷ (local_tokens names ++ us))) ts same in
    let n = like_name x (token.Mark mark.Semicolon ∷ (local_tokens names ++ us)) a.0 a.2 in
    let b = mark_front mark.Semicolon (local_tokens names ++ us) n.1 n.4 in
    let more = locals_front names us b.0 b.2 in
    record {
      there = n.0 ∷ more.there;
      rest = more.rest;
      has = a.1 ∙ ap (λ v. token.Mark mark.Local ∷ v) (n.2
          ∙ ap (λ v. token.Name n.0 ∷ v) (b.1 ∙ ap (λ v. token.Mark mark.Semicolon ∷ v) more.has));
      same = ap (λ z. z ∷ map bare_name more.there) n.3 ∙ ap (λ z. bare_name x ∷ z) more.same;
      like = more.like;
    }

alone : (x : Stmt) (us ts : List Token) → statement_tokens x ++ [] ≡ us → Like ts (statement_tokens x) → Like ts us
alone x us ts is same = like_as (sym (append-nil (statement_tokens x)) ∙ is) same

-- the end of a list behind its last token
ends : (m : Mark) (ts : List Token) → Like ts (token.Mark m ∷ []) → ts ≡ token.Mark m ∷ []
ends m ts same = let p = mark_front m [] ts same in p.1 ∙ ap (λ v. token.Mark m ∷ v) (like_none p.0 p.2)

module _ (n : ℕ) (Inner : List Stmt → Type 0) (inner : (body : List Stmt) → Inner body → MovesBlock Inner body) where
  statement_moves : (x : Stmt) → IsStatement n Inner x → (ts : List Token) → Like ts (statement_tokens x) →
      MovedStatement (IsStatement n Inner) x ts
  statement_moves _ (assign x v h) ts same =
      let q = like_name x _ ts (alone (s.Assign x v) _ ts (spell_assign [] x v) same) in
      let b = mark_front mark.Becomes _ q.1 q.4 in
      let f = expr_front (Fits n level.Expression) v _ b.0 (fits_moves n level.Expression v h) b.2 in
      let z = ends mark.Semicolon f.rest f.like in
      record {
        there = s.Assign q.0 f.there;
        fits = assign q.0 f.there f.fits;
        has = sym (append-nil _) ∙ spell_assign [] q.0 f.there
            ∙ sym (q.2 ∙ ap (λ t. token.Name q.0 ∷ t) (b.1
            ∙ ap (λ t. token.Mark mark.Becomes ∷ t) (f.has ∙ ap (λ t. tokens f.there ++ t) z)));
        same = bare-assign q.0 f.there ∙ ap (λ y. s.Assign y (bare_expr f.there)) q.3 ∙ ap (s.Assign (bare_name x)) f.same
            ∙ sym (bare-assign x v);
      }
  statement_moves _ (assign_element x i v h g) ts same =
      let q = like_name x _ ts (alone (s.AssignElement x i v) _ ts (spell_assign_element [] x i v) same) in
      let o = mark_front mark.OpenBracket _ q.1 q.4 in
      let e = expr_front (Further n level.Expression) i _ o.0 (further_moves n level.Expression i h) o.2 in
      let c = mark_front mark.CloseBracket _ e.rest e.like in
      let b = mark_front mark.Becomes _ c.0 c.2 in
      let f = expr_front (Fits n level.Expression) v _ b.0 (fits_moves n level.Expression v g) b.2 in
      let z = ends mark.Semicolon f.rest f.like in
      record {
        there = s.AssignElement q.0 e.there f.there;
        fits = assign_element q.0 e.there f.there e.fits f.fits;
        has = sym (append-nil _) ∙ spell_assign_element [] q.0 e.there f.there
            ∙ sym (q.2 ∙ ap (λ t. token.Name q.0 ∷ t) (o.1
            ∙ ap (λ t. token.Mark mark.OpenBracket ∷ t) (e.has ∙ ap (λ t. tokens e.there ++ t)
            (c.1 ∙ ap (λ t. token.Mark mark.CloseBracket ∷ t) (b.1
            ∙ ap (λ t. token.Mark mark.Becomes ∷ t) (f.has ∙ ap (λ t. tokens f.there ++ t) z))))));
        same = bare-assign_element q.0 e.there f.there ∙ ap (λ y. s.AssignElement y (bare_expr e.there) (bare_expr f.there)) q.3
            ∙ ap (λ y. s.AssignElement (bare_name x) y (bare_expr f.there)) e.same ∙ ap (s.AssignElement (bare_name x) (bare_expr i)) f.same
            ∙ sym (bare-assign_element x i v);
      }
  statement_moves _ (print at v h) ts same =
      let o = like_opening opening.Print at _ ts (alone (s.Print at v) _ ts (spell_print [] at v) same) in
      let f = expr_front (Fits n level.Expression) v _ o.1 (fits_moves n level.Expression v h) o.3 in
      let z = ends mark.Semicolon f.rest f.like in
      record {
        there = s.Print o.0 f.there;
        fits = print o.0 f.there f.fits;
        has = sym (append-nil _) ∙ spell_print [] o.0 f.there
            ∙ sym (o.2 ∙ ap (λ t. token.Opening opening.Print o.0 ∷ t) (f.has ∙ ap (λ t. tokens f.there ++ t) z));
        same = bare-print o.0 f.there ∙ ap (s.Print start) f.same ∙ sym (bare-print at v);
      }
  statement_moves _ (while at c body h g) ts same =
      let o = like_opening opening.While at _ ts (alone (s.While at c body) _ ts (spell_while [] at c body) same) in
      let f = expr_front (Fits n level.Expression) c _ o.1 (fits_moves n level.Expression c h) o.3 in
      let a = mark_front mark.Do _ f.rest f.like in
      let b = block_front Inner body _ a.0 (inner body g) a.2 in
      let z = ends mark.End b.rest b.like in
      record {
        there = s.While o.0 f.there b.there;
        fits = while o.0 f.there b.there f.fits b.fits;
        has = sym (append-nil _) ∙ spell_while [] o.0 f.there b.there
            ∙ sym (o.2 ∙ ap (λ t. token.Opening opening.While o.0 ∷ t) (f.has ∙ ap (λ t. tokens f.there ++ t)
            (a.1 ∙ ap (λ t. token.Mark mark.Do ∷ t) (b.has ∙ ap (λ t. block_tokens b.there ++ t) z))));
        same = bare-while o.0 f.there b.there ∙ ap (λ y. s.While start y (map bare_statement b.there)) f.same
            ∙ ap (s.While start (bare_expr c)) b.same ∙ sym (bare-while at c body);
      }
  statement_moves _ (if_then at c body h g) ts same =
      let o = like_opening opening.If at _ ts (alone (s.If at c body None) _ ts (spell_if_then [] at c body) same) in
      let f = expr_front (Fits n level.Expression) c _ o.1 (fits_moves n level.Expression c h) o.3 in
      let a = mark_front mark.Then _ f.rest f.like in
      let b = block_front Inner body _ a.0 (inner body g) a.2 in
      let z = ends mark.End b.rest b.like in
      record {
        there = s.If o.0 f.there b.there None;
        fits = if_then o.0 f.there b.there f.fits b.fits;
        has = sym (append-nil _) ∙ spell_if_then [] o.0 f.there b.there
            ∙ sym (o.2 ∙ ap (λ t. token.Opening opening.If o.0 ∷ t) (f.has ∙ ap (λ t. tokens f.there ++ t)
            (a.1 ∙ ap (λ t. token.Mark mark.Then ∷ t) (b.has ∙ ap (λ t. block_tokens b.there ++ t) z))));
        same = bare-if_then o.0 f.there b.there ∙ ap (λ y. s.If start y (map bare_statement b.there) None) f.same
            ∙ ap (λ y. s.If start (bare_expr c) y None) b.same ∙ sym (bare-if_then at c body);
      }
  statement_moves _ (if_else at c body other h g k) ts same =
      let o = like_opening opening.If at _ ts (alone (s.If at c body (Some other)) _ ts (spell_if_else [] at c body other) same) in
      let f = expr_front (Fits n level.Expression) c _ o.1 (fits_moves n level.Expression c h) o.3 in
      let a = mark_front mark.Then _ f.rest f.like in
      let b = block_front Inner body _ a.0 (inner body g) a.2 in
      let e = mark_front mark.Else _ b.rest b.like in
      let w = block_front Inner other _ e.0 (inner other k) e.2 in
      let z = ends mark.End w.rest w.like in
      record {
        there = s.If o.0 f.there b.there (Some w.there);
        fits = if_else o.0 f.there b.there w.there f.fits b.fits w.fits;
        has = sym (append-nil _) ∙ spell_if_else [] o.0 f.there b.there w.there
            ∙ sym (o.2 ∙ ap (λ t. token.Opening opening.If o.0 ∷ t) (f.has ∙ ap (λ t. tokens f.there ++ t)
            (a.1 ∙ ap (λ t. token.Mark mark.Then ∷ t) (b.has ∙ ap (λ t. block_tokens b.there ++ t)
            (e.1 ∙ ap (λ t. token.Mark mark.Else ∷ t) (w.has ∙ ap (λ t. block_tokens w.there ++ t) z))))));
        same = bare-if_else o.0 f.there b.there w.there
            ∙ ap (λ y. s.If start y (map bare_statement b.there) (Some (map bare_statement w.there))) f.same
            ∙ ap (λ y. s.If start (bare_expr c) y (Some (map bare_statement w.there))) b.same
            ∙ ap (λ y. s.If start (bare_expr c) (map bare_statement body) (Some y)) w.same ∙ sym (bare-if_else at c body other);
      }
  statement_moves _ (for_to at x low high body h g k) ts same =
      let o = like_opening opening.For at _ ts (alone (s.For at x low high body) _ ts (spell_for [] at x low high body) same) in
      let q = like_name x _ o.1 o.3 in
      let b = mark_front mark.Becomes _ q.1 q.4 in
      let e = expr_front (Fits n level.Expression) low _ b.0 (fits_moves n level.Expression low h) b.2 in
      let a = mark_front mark.To _ e.rest e.like in
      let f = expr_front (Fits n level.Expression) high _ a.0 (fits_moves n level.Expression high g) a.2 in
      let c = mark_front mark.Do _ f.rest f.like in
      let w = block_front Inner body _ c.0 (inner body k) c.2 in
      let z = ends mark.End w.rest w.like in
      record {
        there = s.For o.0 q.0 e.there f.there w.there;
        fits = for_to o.0 q.0 e.there f.there w.there e.fits f.fits w.fits;
        has = sym (append-nil _) ∙ spell_for [] o.0 q.0 e.there f.there w.there
            ∙ sym (o.2 ∙ ap (λ t. token.Opening opening.For o.0 ∷ t) (q.2
            ∙ ap (λ t. token.Name q.0 ∷ t) (b.1 ∙ ap (λ t. token.Mark mark.Becomes ∷ t)
            (e.has ∙ ap (λ t. tokens e.there ++ t) (a.1 ∙ ap (λ t. token.Mark mark.To ∷ t) (f.has ∙ ap (λ t. tokens f.there ++ t)
            (c.1 ∙ ap (λ t. token.Mark mark.Do ∷ t) (w.has ∙ ap (λ t. block_tokens w.there ++ t) z))))))));
        same = bare-for o.0 q.0 e.there f.there w.there
            ∙ ap (λ y. s.For start y (bare_expr e.there) (bare_expr f.there) (map bare_statement w.there)) q.3
            ∙ ap (λ y. s.For start (bare_name x) y (bare_expr f.there) (map bare_statement w.there)) e.same
            ∙ ap (λ y. s.For start (bare_name x) (bare_expr low) y (map bare_statement w.there)) f.same
            ∙ ap (s.For start (bare_name x) (bare_expr low) (bare_expr high)) w.same ∙ sym (bare-for at x low high body);
      }
  statement_moves _ (pardo at low x high names body h g k) ts same =
      let o = like_opening opening.For at _ ts (alone (s.Pardo at low x high names body) _ ts (spell_pardo [] at low x high names body)
      same) in
      let e = expr_front (Fits n level.Sum) low _ o.1 (fits_moves n level.Sum low h) o.3 in
      let a = like_fixed (token.Binary op.AtMost) (fixed_binary op.AtMost) _ e.rest e.like in
      let q = like_name x _ a.0 a.2 in
      let b = like_fixed (token.Binary op.AtMost) (fixed_binary op.AtMost) _ q.1 q.4 in
      let f = expr_front (Fits n level.Sum) high _ b.0 (fits_moves n level.Sum high g) b.2 in
      let c = mark_front mark.Pardo _ f.rest f.like in
      let l = locals_front names _ c.0 c.2 in
      let w = block_front Inner body _ l.rest (inner body k) l.like in
      let z = ends mark.End w.rest w.like in
      record {
        there = s.Pardo o.0 e.there q.0 f.there l.there w.there;
        fits = pardo o.0 e.there q.0 f.there l.there w.there e.fits f.fits w.fits;
        has = sym (append-nil _) ∙ spell_pardo [] o.0 e.there q.0 f.there l.there w.there
            ∙ sym (o.2 ∙ ap (λ t. token.Opening opening.For o.0 ∷ t) (e.has
            ∙ ap (λ t. tokens e.there ++ t) (a.1 ∙ ap (λ t. token.Binary op.AtMost ∷ t)
            (q.2 ∙ ap (λ t. token.Name q.0 ∷ t) (b.1 ∙ ap (λ t. token.Binary op.AtMost ∷ t) (f.has ∙ ap (λ t. tokens f.there ++ t)
            (c.1 ∙ ap (λ t. token.Mark mark.Pardo ∷ t) (l.has
            ∙ ap (λ t. local_tokens l.there ++ t) (w.has ∙ ap (λ t. block_tokens w.there ++ t) z)))))))));
        same = bare-pardo o.0 e.there q.0 f.there l.there w.there
            ∙ ap (λ y. s.Pardo start y (bare_name q.0) (bare_expr f.there) (map bare_name l.there) (map bare_statement w.there)) e.same
            ∙ ap (λ y. s.Pardo start (bare_expr low) y (bare_expr f.there) (map bare_name l.there) (map bare_statement w.there)) q.3
            ∙ ap (λ y. s.Pardo start (bare_expr low) (bare_name x) y (map bare_name l.there) (map bare_statement w.there)) f.same
            ∙ ap (λ y. s.Pardo start (bare_expr low) (bare_name x) (bare_expr high) y (map bare_statement w.there)) l.same
            ∙ ap (s.Pardo start (bare_expr low) (bare_name x) (bare_expr high) (map bare_name names)) w.same
            ∙ sym (bare-pardo at low x high names body);
      }

  statements_move : (body : List Stmt) → AreStatements n Inner body → MovesBlock (AreStatements n Inner) body
  statements_move [] h ts same = record { there = []; fits = tt; has = sym (like_none ts same); same = refl }
  statements_move (x ∷ rest) h ts same =
      let p = like_part (statement_tokens x) (block_tokens rest) ts same in
      let one = statement_moves x h.0 p.0 p.3 in
      let more = statements_move rest h.1 p.1 p.4 in
      record {
        there = one.there ∷ more.there;
        fits = (one.fits, more.fits);
        has = ap (λ v. v ++ block_tokens more.there) one.has ∙ ap (λ v. p.0 ++ v) more.has ∙ sym p.2;
        same = ap (λ z. z ∷ map bare_statement more.there) one.same ∙ ap (λ z. bare_statement x ∷ z) more.same;
      }

further_block_moves : (b n : ℕ) (body : List Stmt) → IsFurtherBlock b n body → MovesBlock (IsFurtherBlock b n) body
further_block_moves zero n body never = absurd never
further_block_moves (suc b) n body h = statements_move n (IsFurtherBlock b n) (further_block_moves b n) body h

pub block_moves : (b n : ℕ) (body : List Stmt) → IsBlock b n body → MovesBlock (IsBlock b n) body
block_moves b n = statements_move n (IsFurtherBlock b n) (further_block_moves b n)

-- declarations of those tokens
record MovedDeclarations (xs : List Declaration) (us ts : List Token) : Type 0 where
  there : List Declaration
  rest : List Token
  has : ts ≡ declarations_tokens there ++ rest
  same : map bare_declaration there ≡ map bare_declaration xs
  like : Like rest us

record MovedDeclaration (x : Declaration) (us ts : List Token) : Type 0 where
  there : Declaration
  rest : List Token
  has : ts ≡ declaration_tokens there ++ rest
  same : bare_declaration there ≡ bare_declaration x
  like : Like rest us

declaration_front : (x : Declaration) (us ts : List Token) → Like ts (declaration_tokens x ++ us) → MovedDeclaration x us ts
declaration_front (d.Cell x) us ts same =
    let a = mark_front mark.Shared (token.Name x ∷ (token.Mark mark.Semicolon ∷ us)) ts same in
    let q = like_name x (token.Mark mark.Semicolon ∷ us) a.0 a.2 in
    let z = mark_front mark.Semicolon us q.1 q.4 in
    record {
      there = d.Cell q.0;
      rest = z.0;
      has = a.1 ∙ ap (λ t. token.Mark mark.Shared ∷ t) (q.2 ∙ ap (λ t. token.Name q.0 ∷ t) z.1);
      same = ap d.Cell q.3;
      like = z.2;
    }
declaration_front (d.Array x low high) us ts same =
    let a = mark_front mark.Shared _ ts same in
    let q = like_name x _ a.0 a.2 in
    let o = mark_front mark.OpenBracket _ q.1 q.4 in
    let l = like_number low _ o.0 o.2 in
    let r = mark_front mark.Range _ l.1 l.4 in
    let h = like_number high _ r.0 r.2 in
    let c = mark_front mark.CloseBracket (token.Mark mark.Semicolon ∷ us) h.1 h.4 in
    let z = mark_front mark.Semicolon us c.0 c.2 in
    record {
      there = d.Array q.0 l.0 h.0;
      rest = z.0;
      has = a.1 ∙ ap (λ t. token.Mark mark.Shared ∷ t) (q.2 ∙ ap (λ t. token.Name q.0 ∷ t) (o.1 ∙ ap (λ t. token.Mark mark.OpenBracket ∷ t)
          (l.2 ∙ ap (λ t. token.Number l.0 ∷ t) (r.1 ∙ ap (λ t. token.Mark mark.Range ∷ t) (h.2 ∙ ap (λ t. token.Number h.0 ∷ t)
          (c.1 ∙ ap (λ t. token.Mark mark.CloseBracket ∷ t) z.1))))));
      same = ap (λ y. d.Array y (bare_number l.0) (bare_number h.0)) q.3 ∙ ap (λ y. d.Array (bare_name x) y (bare_number h.0)) l.3
          ∙ ap (d.Array (bare_name x) (bare_number low)) h.3;
      like = z.2;
    }
declaration_front (d.Uniform x) us ts same =
    let a = mark_front mark.Var (token.Name x ∷ (token.Mark mark.Semicolon ∷ us)) ts same in
    let q = like_name x (token.Mark mark.Semicolon ∷ us) a.0 a.2 in
    let z = mark_front mark.Semicolon us q.1 q.4 in
    record {
      there = d.Uniform q.0;
      rest = z.0;
      has = a.1 ∙ ap (λ t. token.Mark mark.Var ∷ t) (q.2 ∙ ap (λ t. token.Name q.0 ∷ t) z.1);
      same = ap d.Uniform q.3;
      like = z.2;
    }

declarations_front : (xs : List Declaration) (us ts : List Token) → Like ts (declarations_tokens xs ++ us) → MovedDeclarations xs us ts
declarations_front [] us ts same = record { there = []; rest = ts; has = refl; same = refl; like = same }
declarations_front (x ∷ xs) us ts same =
    let one = declaration_front x (declarations_tokens xs
    ++ us) ts (like_as (append_assoc (declaration_tokens x) (declarations_tokens xs) us) same) in
    let more = declarations_front xs us one.rest one.like in
    record {
      there = one.there ∷ more.there;
      rest = more.rest;
      has = one.has ∙ ap (λ t. declaration_tokens one.there ++ t) more.has
          ∙ sym (append_assoc (declaration_tokens one.there) (declarations_tokens more.there) more.rest);
      same = ap (λ z. z ∷ map bare_declaration more.there) one.same ∙ ap (λ z. bare_declaration x ∷ z) more.same;
      like = more.like;
    }

-- a program of those tokens, which is p but for locations
pub record MovedProgram (b n : ℕ) (p : ProgramTree) (ts : List Token) : Type 0 where
  pub there : ProgramTree
  pub block : IsBlock b n there.body
  pub has : program_tokens there ≡ ts
  pub same : without_locations there ≡ without_locations p

pub program_moves : (b n : ℕ) (p : ProgramTree) → IsBlock b n p.body → (ts : List Token) → Like ts (program_tokens p) →
    MovedProgram b n p ts
program_moves b n p h ts same =
    let a = mark_front mark.Rule _ ts same in
    let q = like_name (record { text = rule_word p.rule; location = p.rule_location }) _ a.0 a.2 in
    let c = mark_front mark.Semicolon _ q.1 q.4 in
    let r = mark_front mark.Procs _ c.0 c.2 in
    let m = like_number p.procs _ r.0 r.2 in
    let o = mark_front mark.Semicolon _ m.1 m.4 in
    let ds = declarations_front p.declarations (token.Mark mark.Begin ∷ (block_tokens p.body ++ token.Mark mark.End ∷ [])) o.0 o.2 in
    let g = mark_front mark.Begin _ ds.rest ds.like in
    let w = block_front (IsBlock b n) p.body _ g.0 (block_moves b n p.body h) g.2 in
    let z = ends mark.End w.rest w.like in
    let word : q.0 ≡ record { text = rule_word p.rule; location = q.0.location } =
    ap (λ y. let v : Name = record { text = y.text; location = q.0.location } in v) q.3 in
    record {
      there = tree_of p.rule q.0.location m.0 ds.there w.there;
      block = w.fits;
      has = sym (a.1 ∙ ap (λ t. token.Mark mark.Rule ∷ t) (q.2 ∙ ap (λ y. token.Name y ∷ q.1) word
          ∙ ap (λ t. token.Name (record { text = rule_word p.rule; location = q.0.location }) ∷ t)
          (c.1 ∙ ap (λ t. token.Mark mark.Semicolon ∷ t) (r.1
          ∙ ap (λ t. token.Mark mark.Procs ∷ t) (m.2 ∙ ap (λ t. token.Number m.0 ∷ t) (o.1 ∙ ap (λ t. token.Mark mark.Semicolon ∷ t)
          (ds.has ∙ ap (λ t. declarations_tokens ds.there ++ t) (g.1
          ∙ ap (λ t. token.Mark mark.Begin ∷ t) (w.has ∙ ap (λ t. block_tokens w.there ++ t) z)))))))));
      same = ap (λ y. tree_of p.rule start y (map bare_declaration ds.there) (map bare_statement w.there)) m.3
          ∙ ap (λ y. tree_of p.rule start (bare_number p.procs) y (map bare_statement w.there)) ds.same
          ∙ ap (tree_of p.rule start (bare_number p.procs) (map bare_declaration p.declarations)) w.same;
    }
