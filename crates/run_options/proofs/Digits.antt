-- Digits, and two numbers with a comma between them.
use Rattle.std.proofs.Common.{◌≡◌, ℕ, suc, zero, ◌+◌, ◌-◌, ◌*◌, ◌<◌, ◌≢◌, List, [], ◌∷◌}
use Rattle.std.proofs.Common.{true, false, Bool, ◌&&◌, Some, None, Option, if◌then◌else◌, length}
use Rattle.std.proofs.Common.{get_or, drop, refl, sym, ap, subst, ◌∙◌, arith, Bor, drop-cons, nat_le}
use Rattle.std.specs.Option.{MatchOption}
use Rattle.std.proofs.lemmas.Bool.{lt-leb}
use Rattle.std.proofs.lemmas.Str.Pattern.{IsSplitOnceResult, split_after}
use Rattle.pram_model.specs.Names.{is_digit}
use Rattle.pram_tokens.specs.Lexemes.{value_after}
use Rattle.pram_tokens.specs.Input.{are_digits}
use Rattle.pram_tokens.proofs.Values.{value_grows}
use Rattle.run_options.specs.Numbers.{most_number, number_of}
use Rattle.run_options.specs.Maps.{IsPair}

second_holds : (p q : Bool) → p && q ≡ true → q ≡ true
second_holds true q h = h
second_holds false q h = absurd (cc h)

first_holds : (p q : Bool) (v n : ℕ) → (if p && q then Some v else None) ≡ Some n → p ≡ true
first_holds true q v n h = refl
first_holds false q v n h = absurd (cc h)

none_there : (p q : Bool) (v : ℕ) → q ≡ false → None ≡ (if p && q then Some v else None)
none_there true q v h = ap (λ (b : Bool). if b then Some v else None) (sym h)
none_there false q v h = refl

-- among digits there is no comma
no_comma : (word : List ℕ) → are_digits word ≡ true → (i : ℕ) → i < length word → get_or word i 0 ≢ 44
no_comma [] h i l e = omega (arith, l)
no_comma (b ∷ word) h zero l e = absurd (cc (subst (λ x. is_digit x && are_digits word ≡ true) e h))
no_comma (b ∷ word) h (suc i) l e = no_comma word (second_holds (is_digit b) (are_digits word) h) i (omega (arith, l)) e

-- a number has digits alone
digits_of : (word : List ℕ) (n : ℕ) → number_of word ≡ Some n → are_digits word ≡ true
digits_of [] n h = refl
digits_of (b ∷ word) n h =
    first_holds (are_digits (b ∷ word)) (nat_le (value_after 0 (b ∷ word)) most_number) (value_after 0 (b ∷ word)) n h

-- the first comma is the one between the numbers
pub split_of : (word : List ℕ) (a b : ℕ) (r : Option (Bor (List ℕ) × Bor (List ℕ))) → IsSplitOnceResult 44 word r → (p : IsPair word a b) →
    MatchOption r ⊥ (λ x. (x.0.now ≡ p.first) × (x.1.now ≡ p.second))
split_of word a b r h p =
    split_after 44 word p.first p.second r h (omega arith) p.spelled (no_comma p.first (digits_of p.first a p.first_is))

-- digits of a larger value are no number
too_large : (word : List ℕ) → most_number < value_after 0 word → None ≡ number_of word
too_large [] h = refl
too_large (b ∷ word) h =
    none_there (are_digits (b ∷ word)) (nat_le (value_after 0 (b ∷ word)) most_number) (value_after 0 (b ∷ word)) (lt-leb _ _ h)

-- which they have once a front of them has it
pub exceeds : (word : List ℕ) (value i : ℕ) → i < length word → value_after value (drop i word) ≡ value_after 0 word →
    most_number < value * 10 + (get_or word i 0 - 48) → None ≡ number_of word
exceeds word value i l is over =
    let d = get_or word i 0 in
    let grows = value_grows (value * 10 + (d - 48)) (drop (suc i) word) in
    let whole : value_after (value * 10 + (d - 48)) (drop (suc i) word) ≡ value_after 0 word =
    ap (value_after value) (sym (drop-cons word i 0 l)) ∙ is in
    too_large word (omega (arith, grows, whole, over))
