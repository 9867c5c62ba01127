-- The bytes of a number are digits.
use Rattle.std.proofs.Common.{◌≡◌, ℕ, zero, suc, ◌+◌, ◌/◌, ◌%◌, ◌==◌, ◌<◌, ◌≤◌, Bool, true, false, List, [], ◌∷◌, arith}
use Rattle.std.specs.Prelude.{decimal, if◌then◌else◌}
use Rattle.std.specs.Fmt.{digit_glyph, digits, digits_onto}
use Rattle.std.proofs.lemmas.Bool.Decides.{nat_tests}

pub record IsDigit (b : ℕ) : Type 0 where
  pub low : 48 ≤ b
  pub high : b ≤ 57

abbrev pub AreDigits : List ℕ → Type 0
AreDigits [] = Unit {0}
AreDigits (b ∷ rest) = IsDigit b × AreDigits rest

onto : (k n : ℕ) (acc : List ℕ) → AreDigits acc → AreDigits (digits_onto k 10 false n acc)
onto zero n acc are = are
onto (suc k) n acc are = by (n / 10 == 0) (onto k (n / 10) (x ∷ acc) (first, are))
  where
    x : ℕ
    x = digit_glyph false (n % 10)

    first : IsDigit (digit_glyph false (n % 10))
    first =
        let small : n % 10 < 10 = omega arith in
        let e : digit_glyph false (n % 10) ≡ 48 + n % 10 = grind (arith, nat_tests, small) in record { low = omega (arith, e); high = omega (arith, e, small) }

    by : (t : Bool) → AreDigits (digits_onto k 10 false (n / 10) (x ∷ acc)) →
        AreDigits (if t then x ∷ acc else digits_onto k 10 false (n / 10) (x ∷ acc))
    by true on = (first, are)
    by false on = on

pub decimal_digits : (n : ℕ) → AreDigits (decimal n)
unfolding digits
decimal_digits n = onto 64 n [] tt

-- a number has a digit
goes_on : (k n b : ℕ) (acc : List ℕ) → digits_onto k 10 false n (b ∷ acc) ≡ [] → ⊥
goes_on zero n b acc is = absurd (cc)
goes_on (suc k) n b acc is = by (n / 10 == 0) is (goes_on k (n / 10) (digit_glyph false (n % 10)) (b ∷ acc))
  where
    by : (t : Bool) →
        (if t then digit_glyph false (n % 10) ∷ b ∷ acc else digits_onto k 10 false (n / 10) (digit_glyph false (n % 10) ∷ b ∷ acc)) ≡ [] →
        (digits_onto k 10 false (n / 10) (digit_glyph false (n % 10) ∷ b ∷ acc) ≡ [] → ⊥) → ⊥
    by true h on = absurd (cc)
    by false h on = on h

begins : (k n : ℕ) → digits_onto (suc k) 10 false n [] ≡ [] → ⊥
begins k n is = by (n / 10 == 0) is
  where
    by : (t : Bool) →
        (if t then digit_glyph false (n % 10) ∷ [] else digits_onto k 10 false (n / 10) (digit_glyph false (n % 10) ∷ [])) ≡ [] → ⊥
    by true h = absurd (cc)
    by false h = goes_on k (n / 10) (digit_glyph false (n % 10)) [] h

pub decimal_some : (n : ℕ) → decimal n ≡ [] → ⊥
unfolding digits
decimal_some n is = begins 63 n is
