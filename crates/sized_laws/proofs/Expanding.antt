-- The pieces of a text are those of the relation, and the other way round.
use Rattle.std.proofs.Common.{◌≡◌, ℕ, zero, suc, ◌+◌, ◌-◌, ◌==◌, Bool, true, false, List, [], ◌∷◌, ◌++◌, drop, length, map}
use Rattle.std.proofs.Common.{Ok, refl, sym, ap, ◌∙◌, arith, decimal, subst}
use Rattle.std.specs.Prelude.{if◌then◌else◌}
use Rattle.std.proofs.lemmas.Bool.Decides.{nat_tests}
use Rattle.sized_texts.specs.declared.size.Size.{Size}
use Rattle.sized_texts.specs.Expressions.{braced}
use Rattle.sized_texts.specs.Grammar.{IsExpression}
use Rattle.sized_texts.specs.Pieces.{Expansion, from_there, in_comment, opens, pieces}
use Rattle.sized_texts.specs.Reading.{◌>>=◌}
use Rattle.sized_texts.proofs.Sound.{braced_ok}
use Rattle.sized_laws.specs.Expands as by
use Rattle.sized_laws.specs.Expands.{Expands}
use Rattle.sized_laws.proofs.Covers.{expression_parts, how_many}
use Rattle.sized_laws.proofs.Grammar.{expression_reads}
use Rattle.sized_laws.proofs.Pieces.{IsPieces, byte, none, number, skipped}

-- ---- each piece is by the relation

-- a byte that is copied
copied : (sizes : List Size) (comment : Bool) (at b : ℕ) (rest to places : List ℕ) → false ≡ opens comment b →
    Expands sizes (in_comment comment b) (at + 1) rest to places → Expands sizes comment at (b ∷ rest) (b ∷ to) (at ∷ places)
copied sizes true at b rest to places closed on = go (b == 10) refl
  where
    go : (t : Bool) → t ≡ (b == 10) → Expands sizes true at (b ∷ rest) (b ∷ to) (at ∷ places)
    go true same =
        let is : b ≡ 10 = grind (arith, nat_tests) in
        let next = subst (λ x. Expands sizes (in_comment true x) (at + 1) rest to places) is on in
        subst (λ x. Expands sizes true at (x ∷ rest) (x ∷ to) (at ∷ places)) (sym is) (by.line_end at rest to places next)
    go false same =
        let stays : in_comment true b ≡ true = ap (λ t. if t then false else true) (sym same) in
        by.commented at b rest to places (λ is. let k : false ≡ (10 == 10) = same ∙ ap (λ x. x == 10) is in absurd (cc))
        (subst (λ c. Expands sizes c (at + 1) rest to places) stays on)
copied sizes false at b rest to places closed on = go (b == 35) refl
  where
    go : (t : Bool) → t ≡ (b == 35) → Expands sizes false at (b ∷ rest) (b ∷ to) (at ∷ places)
    go true same =
        let is : b ≡ 35 = grind (arith, nat_tests) in
        let next = subst (λ x. Expands sizes (in_comment false x) (at + 1) rest to places) is on in
        subst (λ x. Expands sizes false at (x ∷ rest) (x ∷ to) (at ∷ places)) (sym is) (by.hash at rest to places next)
    go false same =
        let stays : in_comment false b ≡ false = grind (arith, nat_tests) in
        by.byte at b rest to places (λ is. let k : false ≡ (35 == 35) = same ∙ ap (λ x. x == 35) is in absurd (cc))
        (λ is. let k = closed ∙ ap (opens false) is in absurd (cc))
        (subst (λ c. Expands sizes c (at + 1) rest to places) stays on)

-- an expression behind its brace
spelled : (sizes : List Size) (comment : Bool) (at b v : ℕ) (rest behind to places : List ℕ) → true ≡ opens comment b →
    IsExpression sizes rest v behind → Expands sizes false (at + 1 + (length rest - length behind)) (drop (length rest - length behind)
    rest) to places →
    Expands sizes comment at (b ∷ rest) (decimal v ++ to) (map (λ _. at) (decimal v) ++ places)
spelled sizes true at b v rest behind to places opened is on = absurd (cc)
spelled sizes false at b v rest behind to places opened is on =
    let o = expression_parts sizes rest v behind is in
    let brace : b ≡ 123 = grind (arith, nat_tests) in
    let left : drop (length rest - length behind) rest ≡ behind =
    ap (λ n. drop n rest) (how_many rest o.mid behind o.parts) ∙ ap (drop (length o.mid)) o.parts ∙ drop_seam o.mid behind in
    let next = subst (λ n. Expands sizes false (at + 1 + n) behind to places) (how_many rest o.mid behind o.parts)
    (subst (λ t. Expands sizes false (at + 1 + (length rest - length behind)) t to places) left on) in
    subst (λ x. Expands sizes false at (x ∷ rest) (decimal v ++ to) (map (λ _. at) (decimal v) ++ places)) (sym brace)
    (subst (λ r. Expands sizes false at (123 ∷ r) (decimal v ++ to) (map (λ _. at) (decimal v) ++ places)) (sym o.parts)
    (by.expression at v o.mid behind to places (subst (λ r. IsExpression sizes r v behind) o.parts is) next))
  where
    drop_seam : (mid behind : List ℕ) → drop (length mid) (mid ++ behind) ≡ behind
    drop_seam [] behind = refl
    drop_seam (x ∷ mid) behind = drop_seam mid behind

drop_none : (n : ℕ) → drop {A = ℕ} n [] ≡ []
drop_none zero = refl
drop_none (suc n) = refl

pub pieces_expand : (sizes : List Size) (skip : ℕ) (comment : Bool) (at : ℕ) (text to places : List ℕ) →
    IsPieces sizes skip comment at text to places → Expands sizes comment (at + skip) (drop skip text) to places
pieces_expand sizes skip comment at text to places (none s a c) =
    subst (λ t. Expands sizes c (a + s) t [] []) (sym (drop_none s)) (by.end c (a + s))
pieces_expand sizes skip comment at text to places (skipped n a b c rest t p on) =
    let e : a + 1 + n ≡ a + suc n = omega arith in
    subst (λ i. Expands sizes c i (drop n rest) t p) e (pieces_expand sizes n c (a + 1) rest t p on)
pieces_expand sizes skip comment at text to places (number a b v c rest behind t p opened read on) =
    let e : a ≡ a + 0 = omega arith in
    subst (λ i. Expands sizes c i (b ∷ rest) (decimal v ++ t) (map (λ _. a) (decimal v) ++ p)) e
    (spelled sizes c a b v rest behind t p opened (braced_ok sizes rest v behind read)
    (pieces_expand sizes (length rest - length behind) false (a + 1) rest t p on))
pieces_expand sizes skip comment at text to places (byte a b c rest t p opened on) =
    let e : a ≡ a + 0 = omega arith in
    let n : a + 1 + 0 ≡ a + 1 = omega arith in
    subst (λ i. Expands sizes c i (b ∷ rest) (b ∷ t) (a ∷ p)) e
    (copied sizes c a b rest t p opened
    (subst (λ i. Expands sizes (in_comment c b) i rest t p) n (pieces_expand sizes 0 (in_comment c b) (a + 1) rest t p on)))

-- ---- what is by the relation are the pieces

abbrev shown : List ℕ → List ℕ → Expansion
shown bytes places = record { text = bytes; places = places }

abbrev AreThey : List Size → Bool → ℕ → (text bytes places : List ℕ) → Type 0
AreThey sizes comment at text bytes places = pieces sizes 0 comment at text ≡ Ok (shown bytes places)

a_byte : (sizes : List Size) (comment after : Bool) (at b : ℕ) (rest bytes places : List ℕ) → opens comment b ≡ false →
    in_comment comment b ≡ after → AreThey sizes after (at + 1) rest bytes places →
    AreThey sizes comment at (b ∷ rest) (b ∷ bytes) (at ∷ places)
a_byte sizes comment after at b rest bytes places closed now on =
    ap (λ o. if o
    then (braced sizes rest >>= λ e. from_there (decimal e.0) at (pieces sizes (length rest - length e.1) false (at + 1) rest))
    else from_there (b ∷ []) at (pieces sizes 0 (in_comment comment b) (at + 1) rest)) closed
    ∙ ap (λ c. from_there (b ∷ []) at (pieces sizes 0 c (at + 1) rest)) now
    ∙ ap (from_there (b ∷ []) at) on

past : (sizes : List Size) (inside behind : List ℕ) (at : ℕ) →
    pieces sizes (length inside) false at (inside ++ behind) ≡ pieces sizes 0 false (at + length inside) behind
past sizes [] behind at = let e : at ≡ at + 0 = omega arith in ap (λ i. pieces sizes 0 false i behind) e
past sizes (b ∷ inside) behind at =
    let e : at + 1 + length inside ≡ at + suc (length inside) = omega arith in
    past sizes inside behind (at + 1) ∙ ap (λ i. pieces sizes 0 false i behind) e

an_expression : (sizes : List Size) (at v : ℕ) (inside behind bytes places : List ℕ) → IsExpression sizes (inside ++ behind) v behind →
    AreThey sizes false (at + 1 + length inside) behind bytes places →
    AreThey sizes false at (123 ∷ (inside ++ behind)) (decimal v ++ bytes) (map (λ _. at) (decimal v) ++ places)
an_expression sizes at v inside behind bytes places is on =
    let rest = inside ++ behind in
    ap (λ r. r >>= λ e. from_there (decimal e.0) at (pieces sizes (length rest - length e.1) false (at + 1) rest))
    (expression_reads sizes rest v behind is)
    ∙ ap (λ n. from_there (decimal v) at (pieces sizes n false (at + 1) rest)) (how_many rest inside behind refl)
    ∙ ap (from_there (decimal v) at) (past sizes inside behind (at + 1) ∙ on)

pub are_pieces : (sizes : List Size) (comment : Bool) (at : ℕ) (text bytes places : List ℕ) →
    Expands sizes comment at text bytes places → AreThey sizes comment at text bytes places
are_pieces sizes comment at text bytes places (by.end c a) = refl
are_pieces sizes comment at text bytes places (by.byte a b rest t p no_hash no_brace on) =
    a_byte sizes false false a b rest t p (grind (arith, nat_tests)) (grind (arith, nat_tests))
    (are_pieces sizes false (a + 1) rest t p on)
are_pieces sizes comment at text bytes places (by.hash a rest t p on) =
    a_byte sizes false true a 35 rest t p refl refl (are_pieces sizes true (a + 1) rest t p on)
are_pieces sizes comment at text bytes places (by.commented a b rest t p stays on) =
    a_byte sizes true true a b rest t p refl (grind (arith, nat_tests)) (are_pieces sizes true (a + 1) rest t p on)
are_pieces sizes comment at text bytes places (by.line_end a rest t p on) =
    a_byte sizes true false a 10 rest t p refl refl (are_pieces sizes false (a + 1) rest t p on)
are_pieces sizes comment at text bytes places (by.expression a v inside behind t p is on) =
    an_expression sizes a v inside behind t p is (are_pieces sizes false (a + 1 + length inside) behind t p on)
