-- Letters of texts, one behind the other, and of those that have no letter which a text of SVG has otherwise.
use Rattle.std.proofs.Common.{◌≡◌, ◌∙◌, ◌+◌, ◌/◌, ◌%◌, ◌==◌, ◌<◌, ◌≤◌, ℕ, zero, suc, Bool, true, false, List, [], ◌∷◌, ◌++◌}
use Rattle.std.proofs.Common.{ap, append_assoc, arith, refl, sym}
use Rattle.std.specs.Prelude.{ℤ, pos, negsuc, decimal, if◌then◌else◌}
use Rattle.std.specs.Fmt.{digit_glyph, digits, digits_onto, signed_decimal}
use Rattle.std.proofs.lemmas.Bool.Decides.{nat_tests}
use Rattle.svg_texts.specs.Letters.{letter, letters}
use Rattle.svg_texts.proofs.Pieces.{glyph}

pub letters_append : (a b : List ℕ) → letters (a ++ b) ≡ letters a ++ letters b
letters_append [] b = refl
letters_append (x ∷ a) b = ap (λ l. letter x ++ l) (letters_append a b) ∙ sym (append_assoc (letter x) (letters a) (letters b))

digit_letter : (d : ℕ) → 48 ≤ d → d ≤ 57 → letter d ≡ d ∷ []
digit_letter d low high = grind (arith, nat_tests)

digits_letters : (k n : ℕ) (rest : List ℕ) → letters rest ≡ rest → letters (digits_onto k 10 false n rest) ≡ digits_onto k 10 false n rest
digits_letters zero n rest is = is
digits_letters (suc k) n rest is = by (n / 10 == 0) (digits_letters k (n / 10) (x ∷ rest) one)
  where
    x : ℕ
    x = digit_glyph false (n % 10)

    first : letter (digit_glyph false (n % 10)) ≡ digit_glyph false (n % 10) ∷ []
    first =
        let small : n % 10 < 10 = omega arith in
        let e = glyph (n % 10) small in
        digit_letter _ (omega (arith, e)) (omega (arith, e, small))

    one : letters (digit_glyph false (n % 10) ∷ rest) ≡ digit_glyph false (n % 10) ∷ rest
    one = ap (λ l. l ++ letters rest) first ∙ ap (λ l. digit_glyph false (n % 10) ∷ l) is

    by : (t : Bool) → letters (digits_onto k 10 false (n / 10) (x ∷ rest)) ≡ digits_onto k 10 false (n / 10) (x ∷ rest) →
        letters (if t then x ∷ rest else digits_onto k 10 false (n / 10) (x ∷ rest)) ≡
        (if t then x ∷ rest else digits_onto k 10 false (n / 10) (x ∷ rest))
    by true on = one
    by false on = on

pub letters_decimal : (n : ℕ) → letters (decimal n) ≡ decimal n
unfolding digits
letters_decimal n = digits_letters 64 n [] refl

pub letters_signed : (z : ℤ) → letters (signed_decimal z) ≡ signed_decimal z
letters_signed (pos n) = letters_decimal n
letters_signed (negsuc n) = ap (λ l. 45 ∷ l) (letters_decimal (suc n))
