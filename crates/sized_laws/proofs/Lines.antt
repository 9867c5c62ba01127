-- The lines of an expansion are those of its text.
use Rattle.std.proofs.Common.{◌≡◌, ℕ, zero, suc, ◌+◌, ◌-◌, ◌<◌, Bool, true, false, List, []}
use Rattle.std.proofs.Common.{◌∷◌, ◌++◌, take, drop, length, map, slice_index}
use Rattle.std.proofs.Common.{refl, ap, arith, decimal, subst}
use Rattle.sized_texts.specs.declared.size.Size.{Size}
use Rattle.sized_texts.specs.Expansion.{offsets_from}
use Rattle.sized_texts.specs.Pieces.{Expansion, in_comment, opens}
use Rattle.sized_texts.proofs.Sound.{braced_ok}
use Rattle.sized_laws.specs.Lines.{HasLinesOf, LinesAreKept}
use Rattle.sized_laws.proofs.Covers.{expression_over}
use Rattle.sized_laws.proofs.Digits.{AreDigits, decimal_digits}
use Rattle.sized_laws.proofs.Ends.{end_of, ends, ends_append, ends_at_end, line_is, no_end, step_ends, step_rest, step_within}
use Rattle.sized_laws.proofs.Pieces.{IsExpandedBy, IsPieces, byte, expansion_ok, none, number, plain, sized, skipped}

-- bytes and their places in a whole text, with n line ends before the first byte
abbrev pub Told : List ℕ → ℕ → List ℕ → List ℕ → Type 0
Told whole n [] [] = Unit {0}
Told whole n (b ∷ to) (p ∷ places) = (p < length whole) × (n ≡ ends (take p whole)) × Told whole (n + end_of b) to places
Told whole n [] (p ∷ places) = ⊥
Told whole n (b ∷ to) [] = ⊥

digits_told : (whole : List ℕ) (at n : ℕ) → at < length whole → n ≡ ends (take at whole) → (ds to places : List ℕ) → AreDigits ds →
    Told whole n to places → Told whole n (ds ++ to) (map (λ _. at) ds ++ places)
digits_told whole at n within same [] to places are on = on
digits_told whole at n within same (d ∷ ds) to places are on =
    let low = are.0.low in
    let none_there = no_end d (λ is. absurd (omega (arith, low, is))) in
    let e : n ≡ n + end_of d = omega (arith, none_there) in (
      within,
      same,
      subst (λ m. Told whole m (ds ++ to) (map (λ _. at) ds ++ places)) e
          (digits_told whole at n within same ds to places are.1 on),
    )

digits_ends : (ds : List ℕ) → AreDigits ds → ends ds ≡ 0
digits_ends [] are = refl
digits_ends (d ∷ ds) are =
    let low = are.0.low in
    let first = no_end d (λ is. absurd (omega (arith, low, is))) in
    let on = digits_ends ds are.1 in omega (arith, first, on)

brace_is : (comment : Bool) (b : ℕ) → true ≡ opens comment b → end_of b ≡ 0
brace_is true b is = absurd (cc)
brace_is false b is = no_end b (λ same. let k = ap (opens false) same in absurd (cc))

-- what is told of the pieces of a text that begins there
pub record AreTold (whole : List ℕ) (at : ℕ) (to places : List ℕ) : Type 0 where
  pub told : Told whole (ends (take at whole)) to places
  pub all : ends (take at whole) + ends to ≡ ends whole

pieces_told : (sizes : List Size) (whole : List ℕ) (skip : ℕ) (comment : Bool) (at : ℕ) (text to places : List ℕ) →
    IsPieces sizes skip comment at text to places → drop at whole ≡ text → ends (take skip text) ≡ 0 → AreTold whole at to places
pieces_told sizes whole skip comment at text to places (none s a c) there one_line =
    let e = ends_at_end at whole there in record { told = tt; all = omega (arith, e) }
pieces_told sizes whole skip comment at text to places (skipped n a b c rest t p on) there one_line =
    let first : end_of b ≡ 0 = omega (arith, one_line) in
    let later : ends (take n rest) ≡ 0 = omega (arith, one_line) in
    let h = pieces_told sizes whole n c (a + 1) rest t p on (step_rest a whole b rest there) later in
    let s = step_ends a whole b rest there in
    let e : ends (take (a + 1) whole) ≡ ends (take a whole) = omega (arith, s, first) in
    let all = h.all in
    record { told = subst (λ m. Told whole m t p) e h.told; all = omega (arith, e, all) }
pieces_told sizes whole skip comment at text to places (number a b v c rest behind t p opened read on) there one_line =
    let h = pieces_told sizes whole (length rest - length behind) false (a + 1) rest t p on (step_rest a whole b rest there)
    (expression_over sizes rest v behind (braced_ok sizes rest v behind read)) in
    let s = step_ends a whole b rest there in
    let first = brace_is c b opened in
    let e : ends (take (a + 1) whole) ≡ ends (take a whole) = omega (arith, s, first) in
    let all = h.all in
    let front = digits_ends (decimal v) (decimal_digits v) in
    let both = ends_append (decimal v) t in
    record {
      told = digits_told whole a (ends (take a whole)) (step_within a whole b rest there) refl (decimal v) t p (decimal_digits v)
          (subst (λ m. Told whole m t p) e h.told);
      all = omega (arith, e, all, front, both);
    }
pieces_told sizes whole skip comment at text to places (byte a b c rest t p opened on) there one_line =
    let h = pieces_told sizes whole 0 (in_comment c b) (a + 1) rest t p on (step_rest a whole b rest there) refl in
    let s = step_ends a whole b rest there in
    let all = h.all in
    record {
      told = (step_within a whole b rest there, refl, subst (λ m. Told whole m t p) s h.told);
      all = omega (arith, s, all);
    }

-- a text as it stands
itself_told : (whole : List ℕ) (at : ℕ) (text : List ℕ) → drop at whole ≡ text → AreTold whole at text (offsets_from at text)
itself_told whole at [] there = let e = ends_at_end at whole there in record { told = tt; all = omega (arith, e) }
itself_told whole at (b ∷ rest) there =
    let h = itself_told whole (at + 1) rest (step_rest at whole b rest there) in
    let s = step_ends at whole b rest there in
    let all = h.all in
    record {
      told = (step_within at whole b rest there, refl, subst (λ m. Told whole m rest (offsets_from (at + 1) rest)) s h.told);
      all = omega (arith, s, all);
    }

as_many : (whole : List ℕ) (n : ℕ) (to places : List ℕ) → Told whole n to places → length places ≡ length to
as_many whole n [] [] is = refl
as_many whole n (b ∷ to) (p ∷ places) is = ap suc (as_many whole (n + end_of b) to places is.2)
as_many whole n [] (p ∷ places) is = absurd is
as_many whole n (b ∷ to) [] is = absurd is

all_within : (whole : List ℕ) (n : ℕ) (to places : List ℕ) → Told whole n to places → (k : ℕ) → k < length to →
    slice_index places k < length whole
all_within whole n [] places is k less = absurd (omega (arith, less))
all_within whole n (b ∷ to) [] is k less = absurd is
all_within whole n (b ∷ to) (p ∷ places) is zero less = is.0
all_within whole n (b ∷ to) (p ∷ places) is (suc k) less = all_within whole (n + end_of b) to places is.2 k (omega (arith, less))

all_before : (whole : List ℕ) (n : ℕ) (to places : List ℕ) → Told whole n to places → (k : ℕ) → k < length to →
    n + ends (take k to) ≡ ends (take (slice_index places k) whole)
all_before whole n [] places is k less = absurd (omega (arith, less))
all_before whole n (b ∷ to) [] is k less = absurd is
all_before whole n (b ∷ to) (p ∷ places) is zero less = let e = is.1 in omega (arith, e)
all_before whole n (b ∷ to) (p ∷ places) is (suc k) less =
    let h = all_before whole (n + end_of b) to places is.2 k (omega (arith, less)) in omega (arith, h)

lines_of : (text : List ℕ) (e : Expansion) → AreTold text 0 e.text e.places → HasLinesOf text e
lines_of text e is =
    let h = is.all in
    let mine = line_is 1 e.text in
    let whole = line_is 1 text in
    record {
      all = omega (arith, h, mine, whole);
      places = as_many text 0 e.text e.places is.told;
      within = all_within text 0 e.text e.places is.told;
      lines = λ k less.
          let same = all_before text 0 e.text e.places is.told k less in
          let here = line_is 1 (take k e.text) in
          let there = line_is 1 (take (slice_index e.places k) text) in omega (arith, same, here, there);
    }

by_sizes : (text : List ℕ) (e : Expansion) (sizes : List Size) → IsExpandedBy text e sizes → AreTold text 0 e.text e.places
by_sizes text e sizes (plain is) = subst (λ (x : Expansion). AreTold text 0 x.text x.places) is (itself_told text 0 text refl)
by_sizes text e sizes (sized s more is) = pieces_told (s ∷ more) text 0 false 0 text e.text e.places is refl refl

pub kept : LinesAreKept
kept given text e is = let x = expansion_ok given text e is in lines_of text e (by_sizes text e x.0 x.2)
