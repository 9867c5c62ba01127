-- A word is read as a size exactly where it is that size's word.
use Rattle.std.proofs.Common.{◌≡◌, ℕ, suc, ◌+◌, ◌<◌, ◌==◌, Bool, true, false, cond, ◌&&◌, List, [], ◌∷◌, ◌++◌, length, take}
use Rattle.std.proofs.Common.{Option, Some, None, Ok, Err, refl, sym, ap, ◌∙◌, subst, arith}
use Rattle.std.specs.Prelude.{if◌then◌else◌, nat_le}
use Rattle.std.specs.List.{prefix_len}
use Rattle.std.specs.Result.{result_ok}
use Rattle.std.proofs.lemmas.List.{take-append-drop, take_at, drop_at}
use Rattle.std.proofs.lemmas.Bool.Decides.{nat_tests}
use Rattle.pram_model.proofs.Truths.{both, unsome}
use Rattle.pram_model.specs.Names.{are_words, is_word}
use Rattle.pram_tokens.specs.Input.{are_digits, is_value}
use Rattle.pram_tokens.specs.Lexemes.{largest, value_after}
use Rattle.pram_tokens.proofs.Lexing.{are_words-front}
use Rattle.sized_texts.specs.declared.reason.Reason.TheVariants as reason
use Rattle.sized_texts.specs.declared.size.Size.{Size}
use Rattle.sized_texts.specs.SizeWords.{IsSizeWord, digits_value, equals_value, name_of, rest_of, value_by}

-- ---- what is read is a size's word

front_words : (word : List ℕ) → are_words (name_of word) ≡ true
front_words [] = refl
front_words (b ∷ rest) =
    are_words-front (is_word b) b (prefix_len is_word rest) (1 + prefix_len is_word rest) rest (omega arith) refl (front_words rest)

number_found : (digits small : Bool) (n v : ℕ) →
    result_ok (if digits then (if small then Ok n else Err reason.OutOfRange) else Err reason.Unexpected) ≡ Some v →
    ((digits && small) ≡ true) × (v ≡ n)
number_found true true n v is = (refl, sym (unsome n v is))
number_found true false n v is = absurd (cc)
number_found false small n v is = absurd (cc)

pub digits_found : (text : List ℕ) (v : ℕ) → digits_value text ≡ Some v → (is_value largest text ≡ true) × (v ≡ value_after 0 text)
digits_found [] v is = absurd (cc)
digits_found (b ∷ rest) v is =
    number_found (are_digits (b ∷ rest)) (nat_le (value_after 0 (b ∷ rest)) largest) (value_after 0 (b ∷ rest)) v is

equals_found : (text : List ℕ) (v : ℕ) → equals_value text ≡ Some v →
    (digits : List ℕ) × (text ≡ 61 ∷ digits) × (is_value largest digits ≡ true) × (v ≡ value_after 0 digits)
equals_found [] v is = absurd (cc)
equals_found (b ∷ digits) v is = by (b == 61) refl is
  where
    by : (t : Bool) → t ≡ (b == 61) → (if t then digits_value digits else None) ≡ Some v →
        (ds : List ℕ) × (b ∷ digits ≡ 61 ∷ ds) × (is_value largest ds ≡ true) × (v ≡ value_after 0 ds)
    by true same is =
        let e : b ≡ 61 = grind (arith, nat_tests) in
        let d = digits_found digits v is in
        (digits, ap (λ x. x ∷ digits) e, d.0, d.1)
    by false same is = absurd (cc)

value_found : (name rest : List ℕ) (v : ℕ) → value_by name rest ≡ Some v → (0 < length name) × (equals_value rest ≡ Some v)
value_found [] rest v is = absurd (cc)
value_found (b ∷ name) rest v is = (omega arith, is)

pub is_size_word : (word : List ℕ) (v : ℕ) → value_by (name_of word) (rest_of word) ≡ Some v →
    IsSizeWord word (record { name = name_of word; value = v })
is_size_word word v is =
    let some = value_found (name_of word) (rest_of word) v is in
    let behind = equals_found (rest_of word) v some.1 in
    record {
      digits = behind.0;
      parts = sym (take-append-drop (prefix_len is_word word) word) ∙ ap (λ r. name_of word ++ r) behind.1;
      named = some.0;
      words = front_words word;
      number = behind.2;
      value = behind.3;
    }

-- ---- a size's word is read

length_by : (t : Bool) (n m k : ℕ) → t ≡ true → n ≡ m → k ≡ suc m → cond t (1 + n) 0 ≡ k
length_by true n m k is same e = omega arith
length_by false n m k is same e = absurd (cc)

length_of : (name digits : List ℕ) → are_words name ≡ true → prefix_len is_word (name ++ 61 ∷ digits) ≡ length name
length_of [] digits h = refl
length_of (b ∷ name) digits h =
    let parts = both (is_word b) (are_words name) h in
    length_by (is_word b) (prefix_len is_word (name ++ 61 ∷ digits)) (length name) (length (b ∷ name)) parts.0
    (length_of name digits parts.1) (omega arith)

number_is : (digits small : Bool) (n : ℕ) → (digits && small) ≡ true →
    result_ok (if digits then (if small then Ok n else Err reason.OutOfRange) else Err reason.Unexpected) ≡ Some n
number_is true true n is = refl
number_is true false n is = absurd (cc)
number_is false small n is = absurd (cc)

digits_are : (text : List ℕ) → is_value largest text ≡ true → digits_value text ≡ Some (value_after 0 text)
digits_are [] is = absurd (cc)
digits_are (b ∷ rest) is =
    number_is (are_digits (b ∷ rest)) (nat_le (value_after 0 (b ∷ rest)) largest) (value_after 0 (b ∷ rest)) is

value_is : (name rest : List ℕ) → 0 < length name → value_by name rest ≡ equals_value rest
value_is [] rest some = absurd (omega arith)
value_is (b ∷ name) rest some = refl

pub is_read : (word : List ℕ) (size : Size) → IsSizeWord word size → value_by (name_of word) (rest_of word) ≡ Some size.value
is_read word size w =
    let behind = 61 ∷ w.digits in
    let end : length size.name ≡ prefix_len is_word (size.name ++ behind) = sym (length_of size.name w.digits w.words) in
    let name : name_of word ≡ size.name =
    ap name_of w.parts ∙ take_at size.name behind (prefix_len is_word (size.name ++ behind)) end in
    let rest : rest_of word ≡ behind =
    ap rest_of w.parts ∙ drop_at size.name behind (prefix_len is_word (size.name ++ behind)) end in
    ap (λ n. value_by n (rest_of word)) name ∙ ap (value_by size.name) rest ∙ value_is size.name behind w.named
    ∙ digits_are w.digits w.number ∙ ap Some (sym w.value)

-- ---- a word by its parts

module _ (word text name rest : List ℕ) (found : Option ℕ) (same : text ≡ word) (named : name ≡ name_of text) (rested : rest ≡ rest_of text)
    (is : found ≡ value_by name rest) where
  of_word : found ≡ value_by (name_of word) (rest_of word)
  of_word =
      is ∙ ap (λ n. value_by n rest) (named ∙ ap name_of same) ∙ ap (value_by (name_of word)) (rested ∙ ap rest_of same)

  pub word_read : (v : ℕ) (held : List ℕ) → found ≡ Some v → held ≡ name → IsSizeWord word (record { name = held; value = v })
  word_read v held some kept =
      subst (λ n. IsSizeWord word (record { name = n; value = v })) (sym (kept ∙ (named ∙ ap name_of same)))
      (is_size_word word v (sym of_word ∙ some))

  pub word_not_read : found ≡ None → (size : Size) → IsSizeWord word size → ⊥
  word_not_read none size w =
      let some : found ≡ Some size.value = of_word ∙ is_read word size w in
      absurd (cc)
