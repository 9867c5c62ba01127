-- A text has an expansion exactly where it expands by the relation.
use Rattle.std.proofs.Common.{◌≡◌, ℕ, zero, suc, ◌+◌, ◌<◌, ◌≤◌, Bool, true, false, List, [], ◌∷◌, length}
use Rattle.std.proofs.Common.{Option, Some, None, Ok, Err, refl, sym, ap, ◌∙◌, arith, nat_lt, slice_index, subst}
use Rattle.std.specs.Prelude.{if◌then◌else◌}
use Rattle.std.proofs.lemmas.Bool.Decides.{nat_tests}
use Rattle.pram_tokens.specs.Scanning.{longest}
use Rattle.sized_texts.specs.declared.fault.SizeFault.TheVariants.{TooLong}
use Rattle.sized_texts.specs.declared.size.Size.{Size}
use Rattle.sized_texts.specs.Expansion.{expanded, expanded_by, expansion, itself, offsets_from, short, undeclared}
use Rattle.sized_texts.specs.Faults.{in_text}
use Rattle.sized_texts.specs.Filling.{filled}
use Rattle.sized_texts.specs.Pieces.{Expansion, pieces_of}
use Rattle.sized_texts.specs.Reading.{◌>>=◌}
use Rattle.sized_texts.specs.SizeLines.{sizes_of}
use Rattle.sized_texts.proofs.Exits.{found_in}
use Rattle.sized_laws.specs.Expands.{Expands, ExpandsBy, IsExpansion, IsFilled, IsItself, TextsAreFilled, TextsExpand}
use Rattle.sized_laws.proofs.Expanding.{are_pieces, pieces_expand}
use Rattle.sized_texts.proofs.Bound.{bind_ok}
use Rattle.sized_laws.proofs.Pieces.{pieces_ok, short_ok}

-- ---- a text as it stands

many_from : (at : ℕ) (text : List ℕ) → length (offsets_from at text) ≡ length text
many_from at [] = refl
many_from at (b ∷ rest) = ap suc (many_from (at + 1) rest)

place_from : (at : ℕ) (text : List ℕ) (k : ℕ) → k < length text → slice_index (offsets_from at text) k ≡ at + k
place_from at [] k less = absurd (omega (arith, less))
place_from at (b ∷ rest) zero less = omega arith
place_from at (b ∷ rest) (suc k) less = let h = place_from (at + 1) rest k (omega (arith, less)) in omega (arith, h)

offsets_are : (at : ℕ) (text places : List ℕ) → length places ≡ length text →
    ((k : ℕ) → k < length text → slice_index places k ≡ at + k) → places ≡ offsets_from at text
offsets_are at [] [] many each = refl
offsets_are at [] (p ∷ places) many each = absurd (omega (arith, many))
offsets_are at (b ∷ rest) [] many each = absurd (omega (arith, many))
offsets_are at (b ∷ rest) (p ∷ places) many each =
    let first : p ≡ at = let e = each 0 (omega arith) in omega (arith, e) in
    let next = offsets_are (at + 1) rest places (omega (arith, many))
    (λ k less. let e = each (suc k) (omega (arith, less)) in omega (arith, e)) in
    ap (λ x. x ∷ places) first ∙ ap (λ x. at ∷ x) next

itself_is : (text : List ℕ) (e : Expansion) → itself text ≡ e → IsItself text e
itself_is text e is =
    subst (IsItself text) is (record {
      same = refl;
      many = many_from 0 text;
      places = λ k less. let h = place_from 0 text k less in omega (arith, h);
    })

is_itself : (text : List ℕ) (e : Expansion) → IsItself text e → itself text ≡ e
is_itself text e is =
    let places = offsets_are 0 text e.places is.many (λ k less. let h = is.places k less in omega (arith, h)) in
    ap (λ p. record { text = text; places = p }) (sym places) ∙ ap (λ t. record { text = t; places = e.places }) (sym is.same)

-- ---- expansions

short_fits : (d e : Expansion) → short d ≡ Ok e → length e.text ≤ longest
short_fits d e is = subst (λ (x : Expansion). length x.text ≤ longest) (short_ok d e is) (by (nat_lt longest (length d.text)) refl is)
  where
    by : (t : Bool) → t ≡ nat_lt longest (length d.text) → (if t then Err TooLong else Ok d) ≡ Ok e → length d.text ≤ longest
    by true same h = absurd (cc)
    by false same h = grind (arith, nat_tests)

fits_short : (e : Expansion) → length e.text ≤ longest → short e ≡ Ok e
fits_short e fits = by (nat_lt longest (length e.text)) refl
  where
    by : (t : Bool) → t ≡ nat_lt longest (length e.text) → (if t then Err TooLong else Ok e) ≡ Ok e
    by true same = absurd (grind (arith, nat_tests))
    by false same = refl

expanded_is : (sizes : List Size) (text : List ℕ) (e : Expansion) → expanded sizes text ≡ Ok e → ExpandsBy sizes text e
expanded_is [] text e is = itself_is text e (cc)
expanded_is (s ∷ sizes) text e is =
    let d = bind_ok (in_text (length text) (pieces_of (s ∷ sizes) text)) short e is in
    let p = pieces_ok (s ∷ sizes) 0 false 0 text d.0 (found_in (length text) (pieces_of (s ∷ sizes) text) d.0 d.1) in (
      subst (λ (x : Expansion). Expands (s ∷ sizes) false 0 text x.text x.places) (short_ok d.0 e d.2)
          (pieces_expand (s ∷ sizes) 0 false 0 text d.0.text d.0.places p),
      short_fits d.0 e d.2,
    )

is_expanded : (sizes : List Size) (text : List ℕ) (e : Expansion) → ExpandsBy sizes text e → expanded sizes text ≡ Ok e
is_expanded [] text e is = ap Ok (is_itself text e is)
is_expanded (s ∷ sizes) text e is =
    ap (λ r. in_text (length text) r >>= short) (are_pieces (s ∷ sizes) false 0 text e.text e.places is.0) ∙ fits_short e is.1

known_is : (sizes : List Size) (text : List ℕ) (u : Option ℕ) (e : Expansion) → expanded_by sizes text u ≡ Ok e →
    (u ≡ None) × (expanded sizes text ≡ Ok e)
known_is sizes text (Some n) e is = absurd (cc)
known_is sizes text None e is = (refl, is)

is_expansion : (given : List Size) (text : List ℕ) (e : Expansion) → expansion given text ≡ Ok e → IsExpansion given text e
is_expansion given text e is =
    let x = bind_ok (in_text (length text) (sizes_of given text)) (λ sizes. expanded_by sizes text (undeclared sizes given)) e is in
    let known = known_is x.0 text (undeclared x.0 given) e x.2 in
    record {
      sizes = x.0;
      declared = found_in (length text) (sizes_of given text) x.0 x.1;
      known = known.0;
      expands = expanded_is x.0 text e known.1;
    }

expansion_is : (given : List Size) (text : List ℕ) (e : Expansion) → IsExpansion given text e → expansion given text ≡ Ok e
expansion_is given text e is =
    ap (λ r. in_text (length text) r >>= λ sizes. expanded_by sizes text (undeclared sizes given)) is.declared
    ∙ ap (expanded_by is.sizes text) is.known
    ∙ is_expanded is.sizes text e is.expands

pub texts_expand : TextsExpand
texts_expand given text e = (is_expansion given text e, expansion_is given text e)

-- ---- texts that are filled

is_filled : (sizes : List Size) (text bytes : List ℕ) → filled sizes text ≡ Ok bytes → IsFilled sizes text bytes
is_filled sizes text bytes is = by (nat_lt longest (length text)) refl is
  where
    by : (t : Bool) → t ≡ nat_lt longest (length text) →
        (if t then Err TooLong else (in_text (length text) (pieces_of sizes text) >>= λ e. Ok e.text)) ≡ Ok bytes →
        IsFilled sizes text bytes
    by true same h = absurd (cc)
    by false same h =
        let d = bind_ok (in_text (length text) (pieces_of sizes text)) (λ e. Ok e.text) bytes h in
        let p = pieces_ok sizes 0 false 0 text d.0 (found_in (length text) (pieces_of sizes text) d.0 d.1) in
        let to : d.0.text ≡ bytes = let k = d.2 in cc in
        record {
          places = d.0.places;
          expands = subst (λ b. Expands sizes false 0 text b d.0.places) to (pieces_expand sizes 0 false 0 text d.0.text d.0.places p);
          fits = grind (arith, nat_tests);
        }

filled_is : (sizes : List Size) (text bytes : List ℕ) → IsFilled sizes text bytes → filled sizes text ≡ Ok bytes
filled_is sizes text bytes is = by (nat_lt longest (length text)) refl
  where
    by : (t : Bool) → t ≡ nat_lt longest (length text) →
        (if t then Err TooLong else (in_text (length text) (pieces_of sizes text) >>= λ e. Ok e.text)) ≡ Ok bytes
    by true same = let fits = is.fits in absurd (grind (arith, nat_tests))
    by false same = ap (λ r. in_text (length text) r >>= λ e. Ok e.text) (are_pieces sizes false 0 text bytes is.places is.expands)

pub texts_are_filled : TextsAreFilled
texts_are_filled sizes text bytes = (is_filled sizes text bytes, filled_is sizes text bytes)
