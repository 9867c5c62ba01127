-- The text of an input is read back.
use Rattle.std.proofs.Common.{◌≡◌, ℕ, zero, suc, ◌+◌, ◌<◌, ◌≤◌, ℤ, pos, negsuc, Bool, true, false, ◌&&◌, List, [], ◌∷◌, ◌++◌, map, length}
use Rattle.std.proofs.Common.{refl, sym, ap, ◌∙◌, subst, arith, lit≤, append_assoc, Some, None, nat_le, if◌then◌else◌}
use Rattle.std.proofs.lemmas.Bool.{le-leb}
use Rattle.std.proofs.lemmas.Bool.Decides.{nat_tests}
use Rattle.std.proofs.lemmas.Int.{ints}
use Rattle.std.proofs.lemmas.Str.Parse.{IsNumeralModel, numerals_by_fold}
use Rattle.std.proofs.lemmas.Fmt.{decimal_nonempty, digits_decimal, digits_value-decimal}
use Rattle.std.specs.Fmt.{signed_decimal}
use Rattle.std.specs.List.{list_all}
use Rattle.std.specs.Prelude.{◌==◌, decimal, neg_ℤ, codes}
use Rattle.pram_model.specs.Names.{is_digit}
use Rattle.pram_model.proofs.Truths.{both}
use Rattle.pram_values.specs.Value.{fits}
use Rattle.pram_tokens.specs.Input.{AreNumbers, IsInputOf, Word, are_digits, begins_word, is_value, number_of, with_byte, with_minus}
use Rattle.pram_tokens.specs.Input.{without_sign, words}
use Rattle.pram_tokens.specs.Lexemes.{is_blank, largest, value_after}
use Rattle.pram_tokens.specs.Plain.{IsAsciiTo}
use Rattle.pram_tokens.specs.Scanning.{longest}
use Rattle.pram_tokens.proofs.Digits.{digit_range, range_digit}
use Rattle.program_texts.specs.Shown.{spaced}
use Rattle.memory_texts.specs.InputText.{input_text}

-- ---- digits

abbrev AreDigits : List ℕ → Type 0
AreDigits word = are_digits word ≡ true

digits_model : IsNumeralModel AreDigits (value_after 0)
digits_model =
    numerals_by_fold AreDigits (record {
      empty = refl;
      parts = λ c cs h. (let p = both (is_digit c) (are_digits cs) h in (digit_range c p.0, p.1));
      more = λ c cs r h. ap (λ (b : Bool). b && are_digits cs) (range_digit c r) ∙ h;
    }) value_after
    (record { empty = λ n. refl; more = λ n c cs r. refl })

value_is : (most : ℕ) (word : List ℕ) (n : ℕ) → 0 < length word → AreDigits word → value_after 0 word ≡ n → n ≤ most →
    is_value most word ≡ true
value_is most [] n some digits value small = absurd (omega (arith, some))
value_is most (b ∷ word) n some digits value small =
    let within : nat_le (value_after 0 (b ∷ word)) most ≡ true = ap (λ v. nat_le v most) value ∙ le-leb n most small in
    λ i. digits i && within i

no_minus : (b : ℕ) → is_digit b ≡ true → (b == 45) ≡ false
no_minus b h = grind (arith, nat_tests)

unsigned_is : (word : List ℕ) (n : ℕ) → 0 < length word → AreDigits word → value_after 0 word ≡ n → n ≤ largest →
    number_of word ≡ Some (pos n)
unsigned_is [] n some digits value small = absurd (omega (arith, some))
unsigned_is (b ∷ word) n some digits value small =
    let is = value_is largest (b ∷ word) n some digits value small in
    ap (λ (minus : Bool). if minus then with_minus word else without_sign (b ∷ word))
    (no_minus b (both (is_digit b) (are_digits word) digits).0)
    ∙ (λ i. if is i then Some (pos (value i)) else None)

negative_is : (word : List ℕ) (n : ℕ) → 0 < length word → AreDigits word → value_after 0 word ≡ n → n ≤ suc largest →
    number_of (45 ∷ word) ≡ Some (neg_ℤ (pos n))
negative_is word n some digits value small =
    let is = value_is (suc largest) word n some digits value small in
    λ i. if is i then Some (neg_ℤ (pos (value i))) else None

-- ---- the number of a value

not_above : (n : ℕ) → fits (pos n) ≡ true → n ≤ largest
not_above n h = grind (arith, ints)

not_below : (n : ℕ) → fits (negsuc n) ≡ true → n ≤ largest
not_below n h = grind (arith, ints)

decimal_digits : (n : ℕ) → n ≤ suc largest → AreDigits (decimal n)
decimal_digits n small = digits_decimal digits_model n (omega (arith, small))

pub number_back : (v : ℤ) → fits v ≡ true → number_of (signed_decimal v) ≡ Some v
number_back (pos n) h =
    let small = not_above n h in
    unsigned_is (decimal n) n (decimal_nonempty n (omega (arith, small))) (decimal_digits n (omega (arith, small)))
    (digits_value-decimal digits_model n (omega (arith, small))) small
number_back (negsuc n) h =
    let small = not_below n h in
    let within : suc n ≤ suc largest = omega (arith, small) in
    negative_is (decimal (suc n)) (suc n) (decimal_nonempty (suc n) (omega (arith, small))) (decimal_digits (suc n) within)
    (digits_value-decimal digits_model (suc n) (omega (arith, small))) within

-- ---- its bytes

-- no white space, and below 128
abbrev IsPlainByte : ℕ → Type 0
IsPlainByte b = (is_blank b ≡ false) × (b < 128)

abbrev ArePlain : List ℕ → Type 0
ArePlain [] = Unit {0}
ArePlain (b ∷ bs) = IsPlainByte b × ArePlain bs

plain_digit : (b : ℕ) → is_digit b ≡ true → IsPlainByte b
plain_digit b h = (grind (arith, nat_tests), grind (arith, nat_tests))

plain_digits : (word : List ℕ) → AreDigits word → ArePlain word
plain_digits [] h = tt
plain_digits (b ∷ word) h = let p = both (is_digit b) (are_digits word) h in (plain_digit b p.0, plain_digits word p.1)

plain_value : (v : ℤ) → fits v ≡ true → ArePlain (signed_decimal v)
plain_value (pos n) h = let small = not_above n h in plain_digits (decimal n) (decimal_digits n (omega (arith, small)))
plain_value (negsuc n) h =
    let small = not_below n h in
    ((refl, lit≤ tt), plain_digits (decimal (suc n)) (decimal_digits (suc n) (omega (arith, small))))

some_value : (v : ℤ) → fits v ≡ true → 0 < length (signed_decimal v)
some_value (pos n) h = let small = not_above n h in decimal_nonempty n (omega (arith, small))
some_value (negsuc n) h = omega arith

-- ---- words

abbrev word : ℕ → List ℕ → Word
word at bytes = record { offset = at; bytes = bytes }

-- the word at the front, of these bytes, where no word goes on behind them
word_front : (at b : ℕ) (bs rest : List ℕ) → ArePlain (b ∷ bs) → begins_word rest ≡ false →
    words at (b ∷ (bs ++ rest)) ≡ word at (b ∷ bs) ∷ words (at + length (b ∷ bs)) rest
word_front at b [] rest plain stops = rw (plain.0.0, stops) refl
word_front at b (c ∷ bs) rest plain stops =
    let behind = word_front (at + 1) c bs rest plain.1 stops in
    let ends : at + 1 + length (c ∷ bs) ≡ at + length (b ∷ (c ∷ bs)) = omega arith in
    step (is_blank b) (is_blank c) plain.0.0 plain.1.0.0
    ∙ (ap (with_byte at b true) behind ∙ ap (λ k. word at (b ∷ (c ∷ bs)) ∷ words k rest) ends)
  where
    text : List ℕ
    text = c ∷ (bs ++ rest)

    step : (x y : Bool) → is_blank b ≡ false → is_blank c ≡ false → words at (b ∷ text) ≡ with_byte at b true (words (at + 1) text)
    step x y stays goes = rw (stays, goes) refl

words_front : (at : ℕ) (bs rest : List ℕ) → 0 < length bs → ArePlain bs → begins_word rest ≡ false →
    words at (bs ++ rest) ≡ word at bs ∷ words (at + length bs) rest
words_front at [] rest some plain stops = absurd (omega (arith, some))
words_front at (b ∷ bs) rest some plain stops = word_front at b bs rest plain stops

-- the values behind the first one
abbrev behind : List ℤ → List ℕ
behind vs = spaced vs ++ codes "\n"

stops : (vs : List ℤ) → begins_word (behind vs) ≡ false
stops [] = refl
stops (v ∷ vs) = refl

-- a value and those behind it
front_numbers : (at : ℕ) (v : ℤ) (vs : List ℤ) → fits v ≡ true → ((k : ℕ) → AreNumbers (words k (behind vs)) vs) →
    AreNumbers (words at (signed_decimal v ++ behind vs)) (v ∷ vs)
front_numbers at v vs fit rest =
    ap (map (λ w. number_of w.bytes)) (words_front at (signed_decimal v) (behind vs) (some_value v fit) (plain_value v fit) (stops vs))
    ∙ (ap (λ x. x ∷ map (λ w. number_of w.bytes) (words (at + length (signed_decimal v)) (behind vs))) (number_back v fit)
    ∙ ap (λ xs. Some v ∷ xs) (rest (at + length (signed_decimal v))))

behind_is : (v : ℤ) (vs : List ℤ) → behind (v ∷ vs) ≡ 32 ∷ (signed_decimal v ++ behind vs)
behind_is v vs = ap (λ l. 32 ∷ l) (append_assoc (signed_decimal v) (spaced vs) (codes "\n"))

behind_numbers : (vs : List ℤ) → list_all fits vs ≡ true → (at : ℕ) → AreNumbers (words at (behind vs)) vs
behind_numbers [] all at = refl
behind_numbers (v ∷ vs) all at =
    let p = both (fits v) (list_all fits vs) all in
    subst (λ (t : List ℕ). AreNumbers (words at t) (v ∷ vs)) (sym (behind_is v vs))
    (front_numbers (at + 1) v vs p.0 (behind_numbers vs p.1))

pub numbers_back : (vs : List ℤ) → list_all fits vs ≡ true → AreNumbers (words 0 (input_text vs)) vs
numbers_back [] all = refl
numbers_back (v ∷ vs) all = let p = both (fits v) (list_all fits vs) all in front_numbers 0 v vs p.0 (behind_numbers vs p.1)

-- ---- bytes below 128

abbrev AreLow : List ℕ → Type 0
AreLow [] = Unit {0}
AreLow (b ∷ bs) = (b < 128) × AreLow bs

low_plain : (bs : List ℕ) → ArePlain bs → AreLow bs
low_plain [] h = tt
low_plain (b ∷ bs) h = (h.0.1, low_plain bs h.1)

low_append : (a b : List ℕ) → AreLow a → AreLow b → AreLow (a ++ b)
low_append [] b h g = g
low_append (x ∷ a) b h g = (h.0, low_append a b h.1 g)

low_behind : (vs : List ℤ) → list_all fits vs ≡ true → AreLow (behind vs)
low_behind [] all = (lit≤ tt, tt)
low_behind (v ∷ vs) all =
    let p = both (fits v) (list_all fits vs) all in
    subst AreLow (sym (behind_is v vs))
    (lit≤ tt, low_append (signed_decimal v) (behind vs) (low_plain (signed_decimal v) (plain_value v p.0)) (low_behind vs p.1))

low_text : (vs : List ℤ) → list_all fits vs ≡ true → AreLow (input_text vs)
low_text [] all = (lit≤ tt, tt)
low_text (v ∷ vs) all =
    let p = both (fits v) (list_all fits vs) all in
    low_append (signed_decimal v) (behind vs) (low_plain (signed_decimal v) (plain_value v p.0)) (low_behind vs p.1)

ascii_to : (bs : List ℕ) → AreLow bs → IsAsciiTo bs (length bs)
ascii_to [] h k within = absurd (omega arith)
ascii_to (b ∷ bs) h zero within = h.0
ascii_to (b ∷ bs) h (suc k) within = ascii_to bs h.1 k (omega arith)

pub read_back : (vs : List ℤ) → list_all fits vs ≡ true → length (input_text vs) ≤ longest → IsInputOf (input_text vs) vs
read_back vs all short = record {
  plain = record { fits = short; ascii = ascii_to (input_text vs) (low_text vs all) };
  numbers = numbers_back vs all;
}
