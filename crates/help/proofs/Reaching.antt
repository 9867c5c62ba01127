-- How far the parser's answers say that tokens begin a program.
use Rattle.std.proofs.Common.{◌≡◌, ◌∙◌, ◌++◌, ◌∷◌, ◌+◌, ◌-◌, ◌<◌, ◌≤◌, [], List, ℕ, ap, arith, drop, length, length-append, subst, sym}
use Rattle.std.proofs.Common.{take}
use Rattle.std.proofs.lemmas.List.{take-append-drop, take-take}
use Rattle.std.proofs.Math.Seq.{take-append-add, take-append_seam, take-length}
use Rattle.pram_tokens.specs.declared.token.Token.{Token}
use Rattle.pram_trees.specs.Faults.{Ends, IsDepthFault, IsSyntaxFault}
use Rattle.pram_trees.specs.Program.{Begins, ProgramTree, IsTree, limit, program_tokens}
use Rattle.help.proofs.Beginnings.{begins_front, begins_whole}
use Rattle.help.specs.Missing.{Reaches}

reaches_front : (front back : List Token) → Begins limit limit front →
    (length front < length (front ++ back) → Begins limit limit (take (length front + 1) (front ++ back)) → ⊥) →
    Reaches (front ++ back) (length front)
reaches_front front back begun never = record {
  within = let n = length-append front back in omega (arith, n);
  begins = subst (Begins limit limit) (sym (take-append_seam front back)) begun;
  ends = never;
}

-- with the token behind, none begins
one_more : (front : List Token) (t : Token) (back : List Token) → take (length front + 1) (front ++ t ∷ back) ≡ front ++ t ∷ []
one_more front t back = take-append-add front (t ∷ back) 1

by_ends : (front back : List Token) → Ends front back → length front < length (front ++ back) →
    Begins limit limit (take (length front + 1) (front ++ back)) → ⊥
by_ends front [] ends less begun = let n = length-append front [] in absurd (omega (arith, n, less))
by_ends front (t ∷ back) ends less begun = ends limit limit (subst (Begins limit limit) (one_more front t back) begun)

counted : (ts front back : List Token) (left : ℕ) → ts ≡ front ++ back → length back ≡ left → length ts - left ≡ length front
counted ts front back left whole is =
    let n : length ts ≡ length front + length back = ap length whole ∙ length-append front back in omega (arith, n, is)

pub left_within : (ts front back : List Token) (left : ℕ) → ts ≡ front ++ back → length back ≡ left → left ≤ length ts
left_within ts front back left whole is =
    let n : length ts ≡ length front + length back = ap length whole ∙ length-append front back in omega (arith, n, is)

-- a program
pub reaches_whole : (ts : List Token) (tree : ProgramTree) → IsTree limit limit tree → ts ≡ program_tokens tree → Reaches ts (length ts)
reaches_whole ts tree stands found = record {
  within = omega (arith);
  begins = subst (Begins limit limit) (sym (take-length ts)) (begins_whole ts tree stands found);
  ends = λ less begun. absurd (omega (arith, less));
}

-- up to a token with which none begins
pub reaches_syntax : (ts : List Token) (left : ℕ) → IsSyntaxFault ts left → Reaches ts (length ts - left)
reaches_syntax ts left f =
    subst (Reaches ts) (sym (counted ts f.front f.back left f.whole f.is_left))
    (subst (λ (all : List Token). Reaches all (length f.front)) (sym f.whole)
    (reaches_front f.front f.back f.begins (by_ends f.front f.back f.ends)))

-- or to one that opens a level too many
pub reaches_depth : (ts : List Token) (left : ℕ) → IsDepthFault ts left → Reaches ts (length ts - left)
reaches_depth ts left f =
    subst (Reaches ts) (sym (counted ts f.front (f.opener ∷ f.back) left f.whole f.is_left))
    (subst (λ (all : List Token). Reaches all (length f.front)) (sym f.whole)
    (reaches_front f.front (f.opener ∷ f.back) f.begins
    (λ less begun. f.within (subst (Begins limit limit) (one_more f.front f.opener f.back) begun))))

-- ---- a program begins with so many and no more

begins_less : (ts : List Token) (n m : ℕ) → n ≤ m → Begins limit limit (take m ts) → Begins limit limit (take n ts)
begins_less ts n m le begun =
    subst (Begins limit limit) (take-take n m ts le)
    (begins_front (take n (take m ts)) (drop n (take m ts))
    (subst (Begins limit limit) (sym (take-append-drop n (take m ts))) begun))

no_farther : (ts : List Token) (k m : ℕ) → Reaches ts k → Reaches ts m → k < m → ⊥
no_farther ts k m a b less =
    let within = b.within in
    a.ends (omega (arith, less, within)) (begins_less ts (k + 1) m (omega (arith, less)) b.begins)

pub one_reach : (ts : List Token) (k m : ℕ) → Reaches ts k → Reaches ts m → k ≡ m
one_reach ts k m a b =
    let less : k < m → ⊥ = no_farther ts k m a b in
    let more : m < k → ⊥ = no_farther ts m k b a in
    omega (arith, less, more)
