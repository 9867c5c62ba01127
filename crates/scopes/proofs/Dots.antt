-- A word of an interval is cut at its first dot.
use Rattle.std.proofs.Common.{◌≡◌, ℕ, suc, zero, ◌<◌, ◌≢◌, ◌==◌, List, [], ◌∷◌, ◌++◌, Bool, true, false, ◌&&◌, Some, None, Option, length}
use Rattle.std.proofs.Common.{if◌then◌else◌, get_or, refl, ap, subst, ◌∙◌, arith, Bor, nat_le, codes, ℤ}
use Rattle.std.proofs.lemmas.Int.{ints}
use Rattle.std.specs.Prelude.{◌≤ℤ◌, ◌<ℤ◌}
use Rattle.std.specs.Int.Signed.{lt_z}
use Rattle.std.specs.Option.{MatchOption}
use Rattle.std.proofs.lemmas.Bool.Decides.{nat_tests}
use Rattle.std.proofs.lemmas.Str.Pattern.{IsSplitOnceResult, split_after}
use Rattle.pram_model.proofs.Truths.{both}
use Rattle.pram_model.specs.Names.{is_digit}
use Rattle.pram_tokens.specs.Lexemes.{largest, value_after}
use Rattle.pram_tokens.specs.Input.{are_digits, is_value, number_of, with_minus, without_sign}
use Rattle.scopes.specs.Intervals.{IsInterval, behind_dot}

chosen : (p : Bool) (v z : ℤ) → (if p then Some v else None) ≡ Some z → p ≡ true
chosen true v z h = refl
chosen false v z h = absurd (cc h)

value_digits : (most : ℕ) (word : List ℕ) → is_value most word ≡ true → are_digits word ≡ true
value_digits most [] h = refl
value_digits most (b ∷ word) h = (both (are_digits (b ∷ word)) (nat_le (value_after 0 (b ∷ word)) most) h).0

-- among digits there is no dot
no_dot : (word : List ℕ) → are_digits word ≡ true → (i : ℕ) → i < length word → get_or word i 0 ≢ 46
no_dot [] h i l e = omega (arith, l)
no_dot (b ∷ word) h zero l e = absurd (cc (subst (λ x. is_digit x && are_digits word ≡ true) e h))
no_dot (b ∷ word) h (suc i) l e = no_dot word (both (is_digit b) (are_digits word) h).1 i (omega (arith, l)) e

-- nor in a number
pub dotless : (word : List ℕ) (z : ℤ) → number_of word ≡ Some z → (i : ℕ) → i < length word → get_or word i 0 ≢ 46
dotless [] z h = absurd (cc h)
dotless (b ∷ rest) z h = by (b == 45) refl h
  where
    minus : b ≡ 45 → are_digits rest ≡ true → (i : ℕ) → i < length (b ∷ rest) → get_or (b ∷ rest) i 0 ≢ 46
    minus is digits zero l e = omega (arith, is, e)
    minus is digits (suc i) l e = no_dot rest digits i (omega (arith, l)) e

    by : (t : Bool) → t ≡ (b == 45) → (if t then with_minus rest else without_sign (b ∷ rest)) ≡ Some z → (i : ℕ) → i < length (b ∷ rest)
        → get_or (b ∷ rest) i 0 ≢ 46
    by true is h =
        let e : b ≡ 45 = grind (arith, nat_tests) in
        minus e (value_digits (suc largest) rest (chosen (is_value (suc largest) rest) _ z h))
    by false is h = no_dot (b ∷ rest) (value_digits largest (b ∷ rest) (chosen (is_value largest (b ∷ rest)) _ z h))

-- where the word of an interval is cut
pub cut_of : (word : List ℕ) (low high : ℤ) (r : Option (Bor (List ℕ) × Bor (List ℕ))) → IsSplitOnceResult 46 word r →
    (p : IsInterval word low high) → MatchOption r ⊥ (λ x. (x.0.now ≡ p.first) × (x.1.now ≡ 46 ∷ p.second))
cut_of word low high r h p =
    split_after 46 word p.first (46 ∷ p.second) r h (omega arith) p.spelled (dotless p.first low p.low_is)

-- what is cut so is spelled so
pub behind_is : (text : List ℕ) (rest : Bor (List ℕ)) → behind_dot text ≡ Some rest.now → text ≡ 46 ∷ rest.now
behind_is [] rest h = absurd (cc h)
behind_is (b ∷ bs) rest h = by (b == 46) refl h
  where
    by : (t : Bool) → t ≡ (b == 46) → (if t then Some bs else None) ≡ Some rest.now → b ∷ bs ≡ 46 ∷ rest.now
    by true is h = let e : b ≡ 46 = grind (arith, nat_tests) in let k : bs ≡ rest.now = cc h in cc (e, k)
    by false is h = absurd (cc h)

pub spelled_so : (word first behind : List ℕ) (second : Bor (List ℕ)) → word ≡ first ++ 46 ∷ behind → behind_dot behind ≡ Some second.now →
    word ≡ first ++ (codes ".." ++ second.now)
spelled_so word first behind second cut dot = cut ∙ ap (λ l. first ++ 46 ∷ l) (behind_is behind second dot)

-- ends that are not in order are those of no interval
pub out_of_order : (a b low high : ℤ) → a ≡ low → b ≡ high → lt_z b a ≡ true → low ≤ℤ high → ⊥
out_of_order a b low high x y less ordered =
    let back : low ≤ℤ high → b <ℤ a → ⊥ = λ h k. omega (arith, ints) in
    back ordered (grind (arith, ints))

pub in_order : (a b : ℤ) → lt_z b a ≡ false → a ≤ℤ b
in_order a b h = grind (arith, ints)
