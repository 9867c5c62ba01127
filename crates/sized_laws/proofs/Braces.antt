-- Outside of comments an expansion has no opening brace.
use Rattle.std.proofs.Common.{◌≡◌, ◌≢◌, ℕ, zero, suc, ◌+◌, ◌-◌, ◌<◌, Bool, true, false, List, [], ◌∷◌, ◌++◌, length, slice_index}
use Rattle.std.proofs.Common.{refl, ap, arith, decimal, subst}
use Rattle.std.proofs.lemmas.Bool.Decides.{nat_tests}
use Rattle.sized_texts.specs.declared.size.Size.{Size}
use Rattle.sized_texts.specs.Pieces.{Expansion, in_comment, opens}
use Rattle.sized_laws.specs.Comments.{HasBracesInComments, IsInComment, NoBraceIsLeft}
use Rattle.sized_laws.proofs.Digits.{AreDigits, decimal_digits}
use Rattle.sized_laws.proofs.Pieces.{IsExpandedBy, IsPieces, byte, expansion_ok, none, number, plain, sized, skipped}

-- The byte at an offset of what follows stands in a comment: one that was begun before, or one that begins there.
data IsCovered (comment : Bool) (to : List ℕ) (k : ℕ) : Type 0 where
  begun : true ≡ comment → ((i : ℕ) → i < k → slice_index to i ≢ 10) → IsCovered comment to k
  within : IsInComment to k → IsCovered comment to k

abbrev AreCovered : Bool → List ℕ → Type 0
AreCovered comment to = (k : ℕ) → k < length to → slice_index to k ≡ 123 → IsCovered comment to k

later : (b : ℕ) (to : List ℕ) (k : ℕ) → IsInComment to k → IsInComment (b ∷ to) (suc k)
later b to k is =
    let less = is.before in
    record {
      hash = suc is.hash;
      before = omega (arith, less);
      is_hash = is.is_hash;
      same_line = λ i. behind i;
    }
  where
    behind : (i : ℕ) → suc is.hash < i → i < suc k → slice_index (b ∷ to) i ≢ 10
    behind zero more below = absurd (omega (arith, more))
    behind (suc i) more below = is.same_line i (omega (arith, more)) (omega (arith, below))

-- what a byte that is copied covers
byte_covers : (comment : Bool) (b : ℕ) (to : List ℕ) → false ≡ opens comment b → AreCovered (in_comment comment b) to →
    AreCovered comment (b ∷ to)
byte_covers true b to opened on zero less is = begun refl (λ i below. absurd (omega (arith, below)))
byte_covers false b to opened on zero less is = let k = ap (opens false) is in absurd (cc)
byte_covers comment b to opened on (suc k) less is = by (on k (omega (arith, less)) is)
  where
    open_line : true ≡ in_comment comment b → b ≢ 10
    open_line covers same = let j = ap (in_comment comment) same in absurd (cc)

    all_before : b ≢ 10 → ((i : ℕ) → i < k → slice_index to i ≢ 10) → (i : ℕ) → i < suc k → slice_index (b ∷ to) i ≢ 10
    all_before first line zero below = first
    all_before first line (suc i) below = line i (omega (arith, below))

    from_hash : b ≡ 35 → ((i : ℕ) → i < k → slice_index to i ≢ 10) → IsInComment (b ∷ to) (suc k)
    from_hash hash line = record { hash = 0; before = omega arith; is_hash = hash; same_line = λ i. behind i }
      where
        behind : (i : ℕ) → 0 < i → i < suc k → slice_index (b ∷ to) i ≢ 10
        behind zero more below = absurd (omega (arith, more))
        behind (suc i) more below = line i (omega (arith, below))

    which : (c : Bool) → c ≡ comment → true ≡ in_comment c b → b ≢ 10 → ((i : ℕ) → i < k → slice_index to i ≢ 10) →
        IsCovered comment (b ∷ to) (suc k)
    which true same covers first line = begun same (all_before first line)
    which false same covers first line = within (from_hash (grind (arith, nat_tests)) line)

    by : IsCovered (in_comment comment b) to k → IsCovered comment (b ∷ to) (suc k)
    by (begun covers line) = which comment refl covers (open_line covers) line
    by (within is) = within (later b to k is)

digits_cover : (ds to : List ℕ) → AreDigits ds → AreCovered false to → AreCovered false (ds ++ to)
digits_cover [] to are on k less is = on k less is
digits_cover (d ∷ ds) to are on zero less is = let high = are.0.high in absurd (omega (arith, high, is))
digits_cover (d ∷ ds) to are on (suc k) less is = by (digits_cover ds to are.1 on k (omega (arith, less)) is)
  where
    by : IsCovered false (ds ++ to) k → IsCovered false (d ∷ (ds ++ to)) (suc k)
    by (begun covers line) = absurd (cc)
    by (within is) = within (later d (ds ++ to) k is)

pub opened_outside : (comment : Bool) (b : ℕ) → true ≡ opens comment b → false ≡ comment
opened_outside true b is = absurd (cc)
opened_outside false b is = refl

pieces_cover : (sizes : List Size) (skip : ℕ) (comment : Bool) (at : ℕ) (text to places : List ℕ) →
    IsPieces sizes skip comment at text to places → AreCovered comment to
pieces_cover sizes skip comment at text to places (none s a c) k less is = absurd (omega (arith, less))
pieces_cover sizes skip comment at text to places (skipped n a b c rest t p on) k less is =
    pieces_cover sizes n c (a + 1) rest t p on k less is
pieces_cover sizes skip comment at text to places (number a b v c rest behind t p opened read on) k less is =
    subst (λ x. AreCovered x (decimal v ++ t)) (opened_outside c b opened)
    (digits_cover (decimal v) t (decimal_digits v) (pieces_cover sizes (length rest - length behind) false (a + 1) rest t p on)) k less is
pieces_cover sizes skip comment at text to places (byte a b c rest t p opened on) k less is =
    byte_covers c b t opened (pieces_cover sizes 0 (in_comment c b) (a + 1) rest t p on) k less is

from_start : (to : List ℕ) → AreCovered false to → HasBracesInComments to
from_start to are k less is = by (are k less is)
  where
    by : IsCovered false to k → IsInComment to k
    by (begun covers line) = absurd (cc)
    by (within is) = is

by_sizes : (text : List ℕ) (e : Expansion) (sizes : List Size) (size : Size) (more : List Size) → sizes ≡ size ∷ more →
    IsExpandedBy text e sizes → HasBracesInComments e.text
by_sizes text e sizes size more is (plain same) = absurd (cc)
by_sizes text e sizes size more is (sized s rest pieces) =
    from_start e.text (pieces_cover (s ∷ rest) 0 false 0 text e.text e.places pieces)

pub none_left : NoBraceIsLeft
none_left given text size more e has is =
    let x = expansion_ok given text e is in
    let same : x.0 ≡ size ∷ more = let k = x.1 in cc in by_sizes text e x.0 size more same x.2
