-- Which words spell a number.
use Rattle.std.proofs.Common.{◌≡◌, ℕ, List, ◌∷◌, refl, sym, ap, ◌∙◌, ◌<◌, ◌≤◌, ◌^◌, arith, subst}
use Rattle.std.proofs.lemmas.Fmt.{parse-signed_decimal, IsAscii-signed, signed_decimal_injective}
use Rattle.std.proofs.lemmas.Int.{ints}
use Rattle.std.proofs.lemmas.Str.{IsUtf8-from_ascii}
use Rattle.std.specs.Fmt.{signed_decimal}
use Rattle.std.specs.Prelude.{ℤ, pos, negsuc, Result, Ok}
use Rattle.std.specs.Str.{IsAscii, IsUtf8}
use Rattle.std.specs.Str.Parse.{ParsesSigned}
use Rattle.superstep_instructions.specs.Code.{Wide}
use Rattle.superstep_instructions.specs.Limits.{Fits}
use Rattle.std.proofs.Math.Facts.{to_z-of_z}
use Rattle.std.proofs.Common.{Bool, true, false, [], not, int_eq}
use Rattle.std.specs.Cmp.Rules.{signed_items}
use Rattle.std.proofs.lemmas.Bool.{eq-eqb, not-false}
use lib.Dec.{eqb}
use lib.Pointwise.{bytes_decides, pointwise}
use lib.Signed.{mag, lt_z}
use mir.Syntax.{w64}
use mir.Val.{to_z, of_z}

pub small : (z : ℤ) → Fits (Wide z) → mag z < 2 ^ 63
small (pos n) h = omega (arith, ints)
small (negsuc n) h = omega (arith, ints)

pub ascii_number : (z : ℤ) → Fits (Wide z) → IsAscii (signed_decimal z)
ascii_number z h = IsAscii-signed z (small z h)

-- what is no UTF-8 spells no number
pub not_text : (word : List ℕ) → (IsUtf8 word → ⊥) → (z : ℤ) → Fits (Wide z) → word ≡ signed_decimal z → ⊥
not_text word none z fits e = none (IsUtf8-from_ascii word (subst IsAscii (sym e) (ascii_number z fits)))

-- what parses as something spells nothing else
pub parsed_as : {E : Type 0} (word : List ℕ) (r : Result ℤ E) → ParsesSigned w64 10 word r → (z : ℤ) → Fits (Wide z) →
    word ≡ signed_decimal z → r ≡ Ok z
parsed_as word r parses z fits e = parse-signed_decimal w64 z word r (record { sfits = small z fits }) (small z fits) e parses

-- a value that is written and read back
pub read_back : (z : ℤ) → Fits (Wide z) → to_z w64 (of_z w64 z) ≡ z
read_back z fits = to_z-of_z {w = w64} (record { sfits = small z fits })

itself : (l : List ℕ) → pointwise eqb l l ≡ true
itself [] = refl
itself (b ∷ l) = simp (eq-eqb b b refl, itself l)

pub same_bytes : (a b : List ℕ) → a ≡ b → pointwise eqb a b ≡ true
same_bytes a b e = subst (λ l. pointwise eqb a l ≡ true) e (itself a)

-- a number of 32 bits fits
pub fits_long : (n : ℕ) → n < 2 ^ 32 → Fits (Wide (pos n))
fits_long n h = (omega (arith, ints), omega (arith, ints))

-- two numbers of one spelling are one
pub one_number : (y z : ℤ) → Fits (Wide y) → Fits (Wide z) → signed_decimal y ≡ signed_decimal z → y ≡ z
one_number y z fy fz e = signed_decimal_injective y z (small y fy) (small z fz) e

-- texts that the test of inequality tells apart
pub unequal : (r : Bool) (a b : List ℕ) → r ≡ not (pointwise eqb a b) → r ≡ true → a ≡ b → ⊥
unequal r a b told true_is e = let same = same_bytes a b e in let h : not (pointwise eqb a b) ≡ true = sym told ∙ true_is in
    absurd (let k : not true ≡ true = ap not (sym same) ∙ h in cc)

-- a number of 32 bits that is tested against its bounds
pub below_least : (v : ℤ) (n least : ℕ) → v ≡ pos n → n < 2 ^ 32 → least < 2 ^ 32 → least ≤ n → lt_z (to_z w64 (of_z w64 v))
    (to_z w64 least) ≡ true → ⊥
below_least v n least same small_n small_least low lt = grind (arith, ints)

pub above_most : (v : ℤ) (n most : ℕ) → v ≡ pos n → n < 2 ^ 32 → most < 2 ^ 32 → n ≤ most → lt_z (to_z w64 most)
    (to_z w64 (of_z w64 v)) ≡ true → ⊥
above_most v n most same small_n small_most high lt = grind (arith, ints)

-- numbers that the test of inequality tells apart, and others
pub other_numbers : (r : Bool) (a b : List ℤ) → r ≡ not (pointwise int_eq a b) → r ≡ true → a ≡ b → ⊥
other_numbers r a b told true_is e =
    let k : not true ≡ true = ap not (sym ((signed_items a b).1 e)) ∙ sym told ∙ true_is in cc

pub same_numbers : (r : Bool) (a b : List ℤ) → r ≡ not (pointwise int_eq a b) → r ≡ false → a ≡ b
same_numbers r a b told false_is = (signed_items a b).0 (not-false (pointwise int_eq a b) (sym told ∙ false_is))

pub shown_again : (P : ℤ → ℤ → Type 0) (low high : ℤ) → Fits (Wide low) → Fits (Wide high) → P low high → P (to_z w64 (of_z w64 low))
    (to_z w64 (of_z w64 high))
shown_again P low high fl fh p =
    subst (λ l. P l (to_z w64 (of_z w64 high))) (sym (read_back low fl)) (subst (λ h. P low h) (sym (read_back high fh)) p)

pub told_same : (r : Bool) (a b : List ℕ) → r ≡ pointwise eqb a b → r ≡ true → a ≡ b
told_same r a b told is = (bytes_decides a b).0 (sym told ∙ is)

-- texts that a test tells apart
pub apart : (a b : List ℕ) → pointwise eqb a b ≡ false → a ≡ b → ⊥
apart a b h e = let both : true ≡ false = sym (same_bytes a b e) ∙ h in cc
