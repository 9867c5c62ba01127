-- Each lexeme that is a token is a real one: a name is no keyword, and a number is not too large.
use Rattle.std.proofs.Common.{◌≡◌, ℕ, suc, ◌+◌, ◌==◌, ◌^◌, pos, ◌≤◌, Bool, true, false, ◌||◌, List, [], ◌∷◌, ◌++◌, take, drop, slice_index}
use Rattle.std.proofs.Common.{length, Option, Some, None, refl, arith, rules, nat_lt, cond, ◌<ℤ◌}
use Rattle.std.specs.Bool.{if◌then◌else◌}
use Rattle.std.specs.Option.{option_or}
use Rattle.std.proofs.lemmas.Bool.Decides.{nat_tests}
use Rattle.std.proofs.lemmas.Int.{ints}
use Rattle.pram_tokens.specs.declared.lexer.Class.TheVariants as class
use Rattle.pram_tokens.specs.declared.lexer.Lexeme.{Lexeme}
use Rattle.pram_tokens.specs.declared.lexer.Lexeme.TheVariants as lexeme
use Rattle.pram_tokens.specs.declared.token.Location.{Location}
use Rattle.pram_tokens.specs.declared.token.Token.{Token}
use Rattle.pram_tokens.specs.declared.words.Fixed.{Fixed}
use Rattle.pram_tokens.specs.declared.words.Fixed.TheVariants as fixed
use Rattle.pram_tokens.specs.Lexemes.{lookup, program_words, statement_words, operator_words, keyword, token_of, span, value_after, largest}
use Rattle.pram_tokens.specs.Lexemes.{number_lexeme, word_lexeme, narrow_lexeme, wide_lexeme, wide_symbol, narrow_symbol, is_blank}
use Rattle.pram_tokens.specs.Lexemes.{lexeme_at}
use Rattle.pram_model.specs.Names.{is_one_of, is_keyword, same_text, are_words, begins_with_letter, is_word, is_letter, is_digit}
use Rattle.pram_tokens.specs.Tokens.{IsNumber, IsReal}

-- the token of a lexeme is a real one
abbrev pub IsRealLexeme : Lexeme → Type 0
IsRealLexeme (lexeme.Blank n) = Unit {0}
IsRealLexeme (lexeme.Token t n) = IsReal t
IsRealLexeme lexeme.Bad = Unit {0}

abbrev pub spellings : List (List ℕ × Fixed) → List (List ℕ)
spellings [] = []
spellings (entry ∷ rest) = entry.0 ∷ spellings rest

fixed_real : (f : Fixed) (place : Location) → IsReal (token_of f place)
fixed_real (fixed.Binary o) place = tt
fixed_real fixed.Not place = tt
fixed_real (fixed.Opening o) place = tt
fixed_real (fixed.Mark m) place = tt

unlisted-by : (b : Bool) (f : Fixed) (x : Option Fixed) (y : Bool) → (x ≡ None → y ≡ false) → (if b then Some f else x) ≡ None →
    (b || y) ≡ false
unlisted-by true f x y h is = absurd (cc)
unlisted-by false f x y h is = h is

unlisted : (table : List (List ℕ × Fixed)) (word : List ℕ) → lookup table word ≡ None → is_one_of (spellings table) word ≡ false
unlisted [] word is = refl
unlisted (entry ∷ rest) word is =
    unlisted-by (same_text entry.0 word) entry.1 (lookup rest word) (is_one_of (spellings rest) word) (unlisted rest word) is

none_of_two : (a b : List (List ℕ)) (word : List ℕ) → is_one_of a word ≡ false → is_one_of b word ≡ false → is_one_of (a ++ b) word ≡ false
none_of_two [] b word h g = g
none_of_two (x ∷ a) b word h g = both (same_text x word) (is_one_of a word) (is_one_of (a ++ b) word) (λ k. none_of_two a b word k g) h
  where
    both : (p q r : Bool) → (q ≡ false → r ≡ false) → (p || q) ≡ false → (p || r) ≡ false
    both true q r k is = is
    both false q r k is = k is

neither : (x y : Option Fixed) → option_or x y ≡ None → (x ≡ None) × (y ≡ None)
neither None y is = (refl, is)
neither (Some f) y is = absurd (cc)

no_keyword : (word : List ℕ) → keyword word ≡ None → is_keyword word ≡ false
no_keyword word is =
    let p = neither (option_or (lookup program_words word) (lookup statement_words word)) (lookup operator_words word) is in
    let q = neither (lookup program_words word) (lookup statement_words word) p.0 in
    none_of_two (spellings program_words) (spellings statement_words ++ spellings operator_words) word (unlisted program_words word q.0)
    (none_of_two (spellings statement_words) (spellings operator_words) word (unlisted statement_words word q.1)
    (unlisted operator_words word p.1))

-- one word more in front of words
pub are_words-front : (b : Bool) (x n m : ℕ) (rest : List ℕ) → m ≡ suc n → is_word x ≡ b → are_words (take n rest) ≡ true →
    are_words (take (cond b m 0) (x ∷ rest)) ≡ true
are_words-front true x n m rest e is h = rw e (simp is h)
are_words-front false x n m rest e is h = refl

run : (text : List ℕ) → are_words (take (span class.Word text) text) ≡ true
run [] = refl
run (x ∷ rest) = are_words-front (is_word x) x (span class.Word rest) (1 + span class.Word rest) rest (omega arith) refl (run rest)

begins-by : (b : Bool) (x n m : ℕ) (rest : List ℕ) → m ≡ suc n → b ≡ true → is_letter x ≡ true →
    begins_with_letter (take (cond b m 0) (x ∷ rest)) ≡ true
begins-by true x n m rest e is h = rw e h
begins-by false x n m rest e is h = absurd (cc)

letter_is_word : (x : ℕ) → is_letter x ≡ true → is_word x ≡ true
letter_is_word x h = rw h refl

begins : (text : List ℕ) → is_letter (slice_index text 0) ≡ true → begins_with_letter (take (span class.Word text) text) ≡ true
begins [] h = absurd (cc)
begins (x ∷ rest) h = begins-by (is_word x) x (span class.Word rest) (1 + span class.Word rest) rest (omega arith) (letter_is_word x h) h

below : (n : ℕ) → n ≤ largest → pos n <ℤ pos (2 ^ 63)
below n h = omega (arith, ints)

number_real : (place : Location) (digits rest : List ℕ) → IsRealLexeme (number_lexeme place digits rest)
number_real place digits rest = by (nat_lt largest (value_after 0 digits)) refl
  where
    small : nat_lt largest (value_after 0 digits) ≡ false → IsNumber (pos (value_after 0 digits))
    small is = let low : value_after 0 digits ≤ largest = grind (arith, nat_tests) in
        record { no_sign = search rules; bounded = below (value_after 0 digits) low }

    after : (b : Bool) → IsNumber (pos (value_after 0 digits))
        → IsRealLexeme (if b then lexeme.Bad else
        lexeme.Token (Rattle.pram_tokens.specs.declared.token.Token.TheVariants.Number (record {
          value = pos (value_after 0 digits);
          location = place;
        })) (length digits))
    after true h = tt
    after false h = h

    by : (b : Bool) → nat_lt largest (value_after 0 digits) ≡ b → IsRealLexeme (number_lexeme place digits rest)
    by true is = rw is tt
    by false is = rw is (after (is_word (slice_index rest 0)) (small is))

word_real : (place : Location) (word : List ℕ) (x : Option Fixed) → begins_with_letter word ≡ true → are_words word ≡ true →
    keyword word ≡ x → IsRealLexeme (word_lexeme place word x)
word_real place word None h g is = record { letter = h; words = g; no_keyword = no_keyword word is }
word_real place word (Some f) h g is = fixed_real f place

narrow_real : (place : Location) (x : Option Fixed) → IsRealLexeme (narrow_lexeme place x)
narrow_real place None = tt
narrow_real place (Some f) = fixed_real f place

wide_real : (place : Location) (x y : Option Fixed) → IsRealLexeme (wide_lexeme place x y)
wide_real place None y = narrow_real place y
wide_real place (Some f) y = fixed_real f place

choose : (b : Bool) (x y : Lexeme) → (b ≡ true → IsRealLexeme x) → (b ≡ false → IsRealLexeme y) → IsRealLexeme (if b then x else y)
choose true x y h g = h refl
choose false x y h g = g refl

pub lexeme_real : (place : Location) (text : List ℕ) → IsRealLexeme (lexeme_at place text)
unfolding lexeme_at
lexeme_real place text =
    let b = slice_index text 0 in
    choose (is_blank b) _ _ (λ _. tt)
    (λ _. choose (b == 35) _ _ (λ _. tt)
    (λ _. choose (is_digit b) _ _ (λ _. number_real place (take (span class.Digit text) text) (drop (span class.Digit text) text))
    (λ _. choose (is_letter b) _ _ (λ is. word_real place (take (span class.Word text) text) (keyword (take (span class.Word text) text))
    (begins text is) (run text) refl)
    (λ _. wide_real place (wide_symbol (b ∷ slice_index text 1 ∷ [])) (narrow_symbol (b ∷ []))))))
