-- Pieces of a content: texts that leave the reader where it was, and how longer ones are put together.
use Rattle.std.proofs.Common.{◌≡◌, ℕ, zero, suc, ◌+◌, ◌/◌, ◌%◌, ◌==◌, ◌<◌, ◌≤◌, Bool, true, false, List, [], ◌∷◌, ◌++◌, refl, ap, ◌∙◌}
use Rattle.std.proofs.Common.{arith}
use Rattle.std.specs.Prelude.{decimal, if◌then◌else◌, nat_eq, nat_lt, ◌||◌, ℤ, pos, negsuc}
use Rattle.std.specs.Fmt.{digit_glyph, digits, digits_onto, signed_decimal}
use Rattle.std.specs.List.{AllByRecursion}
use Rattle.std.proofs.lemmas.Bool.Decides.{nat_tests}
use Rattle.svg_texts.specs.Letters.{letter, letters}
use Rattle.svg_texts.specs.WellFormed.{is_letter, is_quoted}
use Rattle.svg_texts.proofs.Reader.{State, inside, quoted, run}

-- in the content of whatever element
pub record Keeps (text : List ℕ) : Type 0 where
  pub is : (tag : List ℕ) (outer : List (List ℕ)) → run (inside (tag ∷ outer)) text ≡ inside (tag ∷ outer)

-- ---- one text behind the other

pub run_append : (a b : List ℕ) (s : State) → run s (a ++ b) ≡ run (run s a) b
run_append [] b s = refl
run_append (x ∷ a) b s = run_append a b _

pub past : {a : List ℕ} → Keeps a → (rest : List ℕ) (tag : List ℕ) (outer : List (List ℕ)) →
    run (inside (tag ∷ outer)) (a ++ rest) ≡ run (inside (tag ∷ outer)) rest
past {a} k rest tag outer = run_append a rest _ ∙ ap (λ x. run x rest) (k.is tag outer)

pub nothing_keeps : Keeps []
nothing_keeps = record { is = λ tag outer. refl }

pub both : {a b : List ℕ} → Keeps a → Keeps b → Keeps (a ++ b)
both {a} {b} f g = record { is = λ tag outer. past f b tag outer ∙ g.is tag outer }

-- ---- letters

pub letters_keep : (bytes : List ℕ) → AllByRecursion (λ b. is_letter b ≡ true) bytes → Keeps bytes
letters_keep [] all = nothing_keeps
letters_keep (b ∷ bytes) all = let k = letters_keep bytes all.1 in record { is = λ tag outer. rw all.0 (k.is tag outer) }

pub taken : (t : Bool) (x y : State) → t ≡ true → (if t then x else y) ≡ x
taken true x y e = refl
taken false x y e = absurd (cc)

pub passed : (t : Bool) (x y : State) → t ≡ false → (if t then x else y) ≡ y
passed true x y e = absurd (cc)
passed false x y e = refl

-- bytes of a value
abbrev pub IsValue : List ℕ → Type 0
IsValue = AllByRecursion (λ b. is_quoted b ≡ true)

pub values_join : (a b : List ℕ) → IsValue a → IsValue b → IsValue (a ++ b)
values_join [] b f g = g
values_join (x ∷ a) b f g = (f.0, values_join a b f.1 g)

pub quoted_past : (bytes : List ℕ) → IsValue bytes →
    (rest name : List ℕ) (names : List (List ℕ)) (tag : List ℕ) (outer : List (List ℕ)) →
    run (quoted name names tag outer) (bytes ++ rest) ≡ run (quoted name names tag outer) rest
quoted_past [] all rest name names tag outer = refl
quoted_past (b ∷ bytes) all rest name names tag outer =
    ap (λ s. run s (bytes ++ rest)) (taken (is_quoted b) _ _ all.0) ∙ quoted_past bytes all.1 rest name names tag outer

-- ---- numbers

digit_is_quoted : (d : ℕ) → 48 ≤ d → d ≤ 57 → is_quoted d ≡ true
digit_is_quoted d low high = grind (arith, nat_tests)

digit_is_letter : (d : ℕ) → 48 ≤ d → d ≤ 57 → is_letter d ≡ true
digit_is_letter d low high = grind (arith, nat_tests)

pub glyph : (d : ℕ) → d < 10 → digit_glyph false d ≡ 48 + d
glyph d small = grind (arith, nat_tests)

module _ (P : ℕ → Type 0) (each : (d : ℕ) → 48 ≤ d → d ≤ 57 → P d) where
  digits_are : (k n : ℕ) (rest : List ℕ) → AllByRecursion P rest → AllByRecursion P (digits_onto k 10 false n rest)
  digits_are zero n rest are = are
  digits_are (suc k) n rest are = by (n / 10 == 0) (digits_are k (n / 10) (x ∷ rest) (first, are))
    where
      x : ℕ
      x = digit_glyph false (n % 10)

      first : P (digit_glyph false (n % 10))
      first = let small : n % 10 < 10 = omega arith in let e = glyph (n % 10) small in each _ (omega (arith, e)) (omega (arith, e, small))

      by : (t : Bool) → AllByRecursion P (digits_onto k 10 false (n / 10) (x ∷ rest)) →
          AllByRecursion P (if t then x ∷ rest else digits_onto k 10 false (n / 10) (x ∷ rest))
      by true on = (first, are)
      by false on = on

  number_is : (n : ℕ) → AllByRecursion P (decimal n)
  unfolding digits
  number_is n = digits_are 64 n [] tt

pub number_keeps : (n : ℕ) → Keeps (decimal n)
number_keeps n = letters_keep (decimal n) (number_is (λ b. is_letter b ≡ true) digit_is_letter n)

pub integer_keeps : (z : ℤ) → Keeps (signed_decimal z)
integer_keeps (pos n) = number_keeps n
integer_keeps (negsuc n) = let k = number_keeps (suc n) in record { is = λ tag outer. k.is tag outer }

-- ---- the same for `simp`: in a value, in a content, and at its end

pub number_is_value : (n : ℕ) → IsValue (decimal n)
number_is_value n = number_is (λ b. is_quoted b ≡ true) digit_is_quoted n

pub in_value : (n : ℕ) (rest name : List ℕ) (names : List (List ℕ)) (tag : List ℕ) (outer : List (List ℕ)) →
    run (quoted name names tag outer) (decimal n ++ rest) ≡ run (quoted name names tag outer) rest
in_value n = quoted_past (decimal n) (number_is_value n)

pub in_text : (n : ℕ) (rest tag : List ℕ) (outer : List (List ℕ)) →
    run (inside (tag ∷ outer)) (decimal n ++ rest) ≡ run (inside (tag ∷ outer)) rest
in_text n = past (number_keeps n)

pub at_end : (n : ℕ) (tag : List ℕ) (outer : List (List ℕ)) → run (inside (tag ∷ outer)) (decimal n) ≡ inside (tag ∷ outer)
at_end n = (number_keeps n).is

pub signed_in_text : (z : ℤ) (rest tag : List ℕ) (outer : List (List ℕ)) →
    run (inside (tag ∷ outer)) (signed_decimal z ++ rest) ≡ run (inside (tag ∷ outer)) rest
signed_in_text z = past (integer_keeps z)

pub signed_at_end : (z : ℤ) (tag : List ℕ) (outer : List (List ℕ)) →
    run (inside (tag ∷ outer)) (signed_decimal z) ≡ inside (tag ∷ outer)
signed_at_end z = (integer_keeps z).is

pub ruleset numbers = (in_value, in_text, at_end, signed_in_text, signed_at_end)

-- ---- bytes as a text of SVG

by_test : (t : Bool) {a b : List ℕ} → (t ≡ true → Keeps a) → (t ≡ false → Keeps b) → Keeps (if t then a else b)
by_test true f g = f refl
by_test false f g = g refl

plain : (b : ℕ) → nat_eq b 38 ≡ false → nat_eq b 60 ≡ false → nat_eq b 62 ≡ false → nat_eq b 9 ≡ false →
    (nat_lt b 32 || nat_lt 126 b) ≡ false → is_letter b ≡ true
plain b ampersand less greater tab printed = grind (arith, nat_tests)

letter_keeps : (b : ℕ) → Keeps (letter b)
letter_keeps b =
    by_test (nat_eq b 38) (λ e. record { is = λ tag outer. refl }) (λ ampersand.
    by_test (nat_eq b 60) (λ e. record { is = λ tag outer. refl }) (λ less.
    by_test (nat_eq b 62) (λ e. record { is = λ tag outer. refl }) (λ greater.
    by_test (nat_eq b 9) (λ e. record { is = λ tag outer. refl }) (λ tab.
    by_test (nat_lt b 32 || nat_lt 126 b) (λ e. record { is = λ tag outer. refl }) (λ printed.
    letters_keep (b ∷ []) (plain b ampersand less greater tab printed, tt))))))

pub bytes_keep : (bytes : List ℕ) → Keeps (letters bytes)
bytes_keep [] = nothing_keeps
bytes_keep (b ∷ bytes) = both (letter_keeps b) (bytes_keep bytes)
