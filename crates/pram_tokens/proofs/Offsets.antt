-- The tokens of a text stand in their order within it.
use Rattle.std.proofs.Common.{◌≡◌, ℕ, zero, suc, ◌+◌, ◌-◌, ◌==◌, ◌<◌, ◌≤◌, ◌||◌, Bool, true, false, List, [], ◌∷◌, ◌++◌, take, drop}
use Rattle.std.proofs.Common.{slice_index, length, Option, Some, None, Result, Ok, Err, subst, arith, nat_lt}
use Rattle.std.specs.Bool.{if◌then◌else◌}
use Rattle.std.specs.List.{All}
use Rattle.std.specs.List.Sorted.{IsStrictlyIncreasing}
use Rattle.std.proofs.lemmas.List.Elements.{All-cons}
use Rattle.pram_tokens.specs.declared.lexer.Class.TheVariants as class
use Rattle.pram_tokens.specs.declared.lexer.Lexeme.{Lexeme}
use Rattle.pram_tokens.specs.declared.lexer.Lexeme.TheVariants as lexeme
use Rattle.pram_tokens.specs.declared.token.Location.{Location}
use Rattle.pram_tokens.specs.declared.token.Token.{Token}
use Rattle.pram_tokens.specs.declared.words.Fixed.{Fixed}
use Rattle.pram_tokens.specs.declared.words.Fixed.TheVariants as fixed
use Rattle.pram_tokens.specs.Lexemes.{keyword, token_of, span, value_after, largest, number_lexeme, word_lexeme, narrow_lexeme, wide_lexeme}
use Rattle.pram_tokens.specs.Lexemes.{wide_symbol, narrow_symbol, is_blank, lexeme_at}
use Rattle.pram_tokens.specs.Scanning.{Cut, cut, cut_of, next_line, place, scan, scan_by, with_front}
use Rattle.pram_model.specs.Names.{is_word, is_letter, is_digit}
use Rattle.pram_tokens.specs.InOrder.{place_of, places, StandInOrder}

-- ascending numbers, from low on and below high
abbrev pub Between : ℕ → List ℕ → ℕ → Type 0
Between low [] high = low ≤ high
Between low (x ∷ xs) high = (low ≤ x) × Between (x + 1) xs high

lower : (low from high : ℕ) (xs : List ℕ) → low ≤ from → Between from xs high → Between low xs high
lower low from high [] h g = omega (arith, h, g)
lower low from high (x ∷ xs) h g = (omega (arith, h, g.0), g.1)

most : (low high : ℕ) (xs : List ℕ) → Between low xs high → low ≤ high
most low high [] h = h
most low high (x ∷ xs) h = let m = most (x + 1) high xs h.1 in omega (arith, m, h.0)

increasing : (low high : ℕ) (xs : List ℕ) → Between low xs high → IsStrictlyIncreasing xs
increasing low high [] h k below = absurd (omega (arith, below))
increasing low high (x ∷ []) h k below = absurd (omega (arith, below))
increasing low high (x ∷ y ∷ xs) h zero below = omega (arith, h.1.0)
increasing low high (x ∷ y ∷ xs) h (suc k) below =
    let next : suc k + 1 ≡ suc (k + 1) = omega arith in
    rw next (increasing (x + 1) high (y ∷ xs) h.1 k (omega (arith, below)))

inside : (low high : ℕ) (xs : List ℕ) → Between low xs high → All (λ at. at < high) xs
inside low high [] h = λ k d below. absurd (omega (arith, below))
inside low high (x ∷ xs) h =
    let m = most (x + 1) high xs h.1 in
    All-cons (λ at. at < high) x xs (omega (arith, m)) (inside (x + 1) high xs h.1)

-- that place, or none
pub data IsAt : List ℕ → ℕ → Type 0 where
  unplaced : (at : ℕ) → IsAt [] at
  placed : (at : ℕ) → IsAt (at ∷ []) at

-- a token that begins at that place, if it keeps its place
abbrev IsThere : Location → Lexeme → Type 0
IsThere l (lexeme.Token t n) = IsAt (place_of t) l.offset
IsThere l (lexeme.Blank n) = Unit {0}
IsThere l lexeme.Bad = Unit {0}

fixed_there : (f : Fixed) (l : Location) → IsAt (place_of (token_of f l)) l.offset
fixed_there (fixed.Binary o) l = unplaced l.offset
fixed_there fixed.Not l = unplaced l.offset
fixed_there (fixed.Opening o) l = placed l.offset
fixed_there (fixed.Mark m) l = unplaced l.offset

choose : (l : Location) (b : Bool) (x y : Lexeme) → IsThere l x → IsThere l y → IsThere l (if b then x else y)
choose l true x y h g = h
choose l false x y h g = g

number_there : (l : Location) (digits rest : List ℕ) → IsThere l (number_lexeme l digits rest)
number_there l digits rest =
    choose l (nat_lt largest (value_after 0 digits) || is_word (slice_index rest 0)) lexeme.Bad _ tt (placed l.offset)

word_there : (l : Location) (word : List ℕ) (x : Option Fixed) → IsThere l (word_lexeme l word x)
word_there l word None = placed l.offset
word_there l word (Some f) = fixed_there f l

narrow_there : (l : Location) (x : Option Fixed) → IsThere l (narrow_lexeme l x)
narrow_there l None = tt
narrow_there l (Some f) = fixed_there f l

wide_there : (l : Location) (x y : Option Fixed) → IsThere l (wide_lexeme l x y)
wide_there l None y = narrow_there l y
wide_there l (Some f) y = fixed_there f l

lexeme_there : (l : Location) (text : List ℕ) → IsThere l (lexeme_at l text)
unfolding lexeme_at
lexeme_there l text =
    let b = slice_index text 0 in
    choose l (is_blank b) _ _ tt
    (choose l (b == 35) _ _ tt
    (choose l (is_digit b) _ _ (number_there l (take (span class.Digit text) text) (drop (span class.Digit text) text))
    (choose l (is_letter b) _ _ (word_there l (take (span class.Word text) text) (keyword (take (span class.Word text) text)))
    (wide_there l (wide_symbol (b ∷ slice_index text 1 ∷ [])) (narrow_symbol (b ∷ []))))))

-- tokens at their offsets, which ascend from low on and below high
abbrev AreThere : ℕ → ℕ → Result Cut ℕ → Type 0
AreThere low high (Ok c) = Between low (places c.tokens) high
AreThere low high (Err bad) = Unit {0}

earlier : (at high : ℕ) (r : Result Cut ℕ) → AreThere (at + 1) high r → AreThere at high r
earlier at high (Ok c) h = lower at (at + 1) high (places c.tokens) (omega arith) h
earlier at high (Err bad) h = tt

front : (xs ys : List ℕ) (at high : ℕ) → IsAt xs at → Between (at + 1) ys high → Between at (xs ++ ys) high
front _ ys _ high (unplaced at) h = lower at (at + 1) high ys (omega arith) h
front _ ys _ high (placed at) h = (omega arith, h)

in_front : (at high : ℕ) (t : Token) (r : Result Cut ℕ) → IsAt (place_of t) at → AreThere (at + 1) high r →
    AreThere at high (with_front t at r)
in_front at high t (Ok c) is h = front (place_of t) (places c.tokens) at high is h
in_front at high t (Err bad) is h = tt

by_lexeme : (at line high : ℕ) (x : Lexeme) (rest : ℕ → Result Cut ℕ) → IsThere (place at line) x →
    ((n : ℕ) → AreThere (at + 1) high (rest n)) → AreThere at high (scan_by x at rest)
by_lexeme at line high (lexeme.Blank n) rest there more = earlier at high (rest (n - 1)) (more (n - 1))
by_lexeme at line high (lexeme.Token t n) rest there more = in_front at high t (rest (n - 1)) there (more (n - 1))
by_lexeme at line high lexeme.Bad rest there more = tt

scanned : (skip at line high : ℕ) (text : List ℕ) → at + length text ≡ high → AreThere at high (scan skip at line text)
scanned skip at line high [] is = omega (arith, is)
scanned zero at line high (b ∷ bs) is =
    by_lexeme at line high (lexeme_at (place at line) (b ∷ bs)) (λ n. scan n (at + 1) (next_line line b) bs)
    (lexeme_there (place at line) (b ∷ bs))
    (λ n. scanned n (at + 1) (next_line line b) high bs (omega (arith, is)))
scanned (suc n) at line high (b ∷ bs) is =
    earlier at high (scan n (at + 1) (next_line line b) bs) (scanned n (at + 1) (next_line line b) high bs (omega (arith, is)))

pub in_order : (text : List ℕ) (ts : List Token) (os : List ℕ) → cut_of text ≡ Ok (cut ts os) → StandInOrder (length text) ts
in_order text ts os is =
    let there : AreThere 0 (length text) (Ok (cut ts os)) =
    subst (AreThere 0 (length text)) is (scanned 0 0 1 (length text) text (omega arith)) in
    record { ascend = increasing 0 (length text) (places ts) there; inside = inside 0 (length text) (places ts) there }
