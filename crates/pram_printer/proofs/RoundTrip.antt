-- What was spelled is cut into the same tokens again.
use Rattle.std.proofs.Common.{◌≡◌, ℕ, zero, suc, ◌+◌, ◌<◌, ◌≤◌, ℤ, pos, negsuc, Bool, true, false, List, [], ◌∷◌, ◌++◌, map, length, refl}
use Rattle.std.proofs.Common.{sym, ap, ◌∙◌, subst, arith, rules, lit≤, append_assoc, length-append, take, drop, Some, None, nat_eq, Ok}
use Rattle.std.proofs.lemmas.Bool.Decides.{nat_tests}
use Rattle.std.proofs.lemmas.Int.{ints}
use Rattle.std.specs.List.{prefix_len}
use Rattle.std.specs.Option.{option_or}
use Rattle.std.specs.Prelude.{Option, decimal, nat_lt, ◌||◌, ◌&&◌, if◌then◌else◌}
use Rattle.std.specs.Fmt.{signed_decimal}
use Rattle.std.proofs.lemmas.Str.Parse.{IsNumeralModel, numerals_by_fold}
use Rattle.std.proofs.lemmas.Fmt.{digits_decimal, digits_value-decimal, decimal_is_IsNumeral}
use Rattle.pram_tokens.specs.declared.lexer.Lexeme.{Lexeme}
use Rattle.pram_tokens.specs.declared.lexer.Lexeme.TheVariants as lexeme
use Rattle.pram_tokens.specs.declared.token.Binary.{Binary}
use Rattle.pram_tokens.specs.declared.token.Binary.TheVariants as op
use Rattle.pram_tokens.specs.declared.token.Location.{Location}
use Rattle.pram_tokens.specs.declared.token.Mark.{Mark}
use Rattle.pram_tokens.specs.declared.token.Mark.TheVariants as mark
use Rattle.pram_tokens.specs.declared.token.Opening.{Opening}
use Rattle.pram_tokens.specs.declared.token.Opening.TheVariants as opening
use Rattle.pram_tokens.specs.declared.token.Token.{Token}
use Rattle.pram_tokens.specs.declared.token.Token.TheVariants as token
use Rattle.pram_tokens.specs.declared.words.Fixed.{Fixed}
use Rattle.pram_tokens.proofs.Digits.{digit_range, range_digit}
use Rattle.pram_tokens.specs.Lexemes.{is_blank, keyword, largest, lexeme_at, lookup, number_lexeme, operator_words, program_words}
use Rattle.pram_tokens.specs.Lexemes.{statement_words, value_after, word_lexeme}
use Rattle.pram_printer.specs.Places.{IsReadBack, start}
use Rattle.pram_trees.specs.Program.{IsTree, ProgramTree, limit, program_tokens}
use Rattle.pram_tokens.specs.Scanning.{cut, line_after, longest, next_line, place, scan, with_front}
use Rattle.pram_printer.specs.Spelling.{binary_text, mark_end, mark_text, opening_text, spelled, spelling, token_end, token_text}
use Rattle.pram_tokens.specs.Plain.{IsAsciiTo}
use Rattle.pram_model.specs.Names.{IsName, are_words, is_digit, is_keyword, is_letter, is_one_of, is_word, same_text}
use Rattle.pram_tokens.specs.Tokens.{AreReal, IsNumber, IsReal}
use Rattle.pram_tokens.proofs.Lexing.{spellings}
use Rattle.pram_printer.proofs.Moving.{bare}
use Rattle.pram_tokens.proofs.Scans.{pass_blank, pass_token}
use Rattle.pram_printer.proofs.StmtMoving.{program_moves}
use Rattle.pram_model.proofs.Truths.{both}

-- a list whose elements all pass
abbrev pub AllIn : (ℕ → Bool) → List ℕ → Type 0
AllIn p [] = Unit {0}
AllIn p (b ∷ bs) = (p b ≡ true) × AllIn p bs

all_words : (bs : List ℕ) → are_words bs ≡ true → AllIn is_word bs
all_words [] h = tt
all_words (b ∷ bs) h = let p = both (is_word b) (are_words bs) h in (p.0, all_words bs p.1)

run : (p : ℕ → Bool) (bs : List ℕ) (e : ℕ) (rest : List ℕ) → AllIn p bs → p e ≡ false → prefix_len p (bs ++ e ∷ rest) ≡ length bs
run p [] e rest h stops = rw stops refl
run p (b ∷ bs) e rest h stops =
    rw h.0 (ap (λ n. 1 + n) (run p bs e rest h.1 stops) ∙ (let e : 1 + length bs ≡ suc (length bs) = omega arith in e))

take_front : (bs rest : List ℕ) → take (length bs) (bs ++ rest) ≡ bs
take_front [] rest = refl
take_front (b ∷ bs) rest = ap (λ l. b ∷ l) (take_front bs rest)

drop_front : (bs rest : List ℕ) → drop (length bs) (bs ++ rest) ≡ rest
drop_front [] rest = refl
drop_front (b ∷ bs) rest = drop_front bs rest

-- A word that is no keyword is in none of the tables.

listed-by : (b : Bool) (f : Fixed) (x : Option Fixed) (y : Bool) → (y ≡ false → x ≡ None) → (b || y) ≡ false →
    (if b then Some f else x) ≡ None
listed-by true f x y h is = absurd (cc)
listed-by false f x y h is = h is

unlisted : (table : List (List ℕ × Fixed)) (word : List ℕ) → is_one_of (spellings table) word ≡ false → lookup table word ≡ None
unlisted [] word is = refl
unlisted (entry ∷ rest) word is =
    listed-by (same_text entry.0 word) entry.1 (lookup rest word) (is_one_of (spellings rest) word) (unlisted rest word) is

neither : (a b : List (List ℕ)) (word : List ℕ) → is_one_of (a ++ b) word ≡ false → (is_one_of a word ≡ false) × (is_one_of b word ≡ false)
neither [] b word h = (refl, h)
neither (x ∷ a) b word h = both (same_text x word) (is_one_of a word) (is_one_of (a ++ b) word) (neither a b word) h
  where
    both : (p q r : Bool) → (r ≡ false → (q ≡ false) × (is_one_of b word ≡ false)) → (p || r) ≡ false →
        ((p || q) ≡ false) × (is_one_of b word ≡ false)
    both true q r k is = absurd (cc)
    both false q r k is = k is

no_keyword : (word : List ℕ) → is_keyword word ≡ false → keyword word ≡ None
no_keyword word h =
    let p = neither (spellings program_words) (spellings statement_words ++ spellings operator_words) word h in
    let q = neither (spellings statement_words) (spellings operator_words) word p.1 in
    ap (λ x. option_or (option_or x (lookup statement_words word)) (lookup operator_words word)) (unlisted program_words word p.0)
    ∙ ap (λ x. option_or (option_or None x) (lookup operator_words word)) (unlisted statement_words word q.0)
    ∙ unlisted operator_words word q.1

-- a token where it was spelled
abbrev pub put : Location → Token → Token
put at (token.Name x) = token.Name (record { text = x.text; location = at })
put at (token.Number n) = token.Number (record { value = n.value; location = at })
put at (token.Opening o p) = token.Opening o at
put at t = t

-- the byte behind a name or a number
module _ (at : Location) (rest : List ℕ) where
  letter_only : (b : ℕ) → is_letter b ≡ true → (is_blank b ≡ false) × (nat_eq b 35 ≡ false) × (is_digit b ≡ false)
  letter_only b h = (grind (arith, nat_tests), grind (arith, nat_tests), grind (arith, nat_tests))

  -- the tests are variables here, since a rewrite at the text itself would also reach into the span
  pick : (a b c d : Bool) (v w x y z : Lexeme) → a ≡ false → b ≡ false → c ≡ false → d ≡ true →
      (if a then v else (if b then w else (if c then x else (if d then y else z)))) ≡ y
  pick a b c d v w x y z p q r s = rw (p, q, r, s) refl

  read_letter : (b : ℕ) (bs : List ℕ) → is_letter b ≡ true → AllIn is_word (b ∷ bs) → keyword (b ∷ bs) ≡ None →
      lexeme_at at (b ∷ (bs ++ (32 ∷ rest))) ≡ lexeme.Token (token.Name (record { text = b ∷ bs; location = at })) (length (b ∷ bs))
  unfolding lexeme_at
  read_letter b bs letter words free =
      let o = letter_only b letter in
      let text = b ∷ (bs ++ (32 ∷ rest)) in
      let spanned : prefix_len is_word text ≡ length (b ∷ bs) = run is_word (b ∷ bs) 32 rest words refl in
      let taken : take (length (b ∷ bs)) text ≡ b ∷ bs = take_front (b ∷ bs) (32 ∷ rest) in
      pick (is_blank b) (nat_eq b 35) (is_digit b) (is_letter b) _ _ _ _ _ o.0 o.1 o.2 letter
      ∙ (ap (λ n. word_lexeme at (take n text) (keyword (take n text))) spanned ∙ ap (λ l. word_lexeme at l (keyword l)) taken
      ∙ ap (word_lexeme at (b ∷ bs)) free)

  read_name : (bs : List ℕ) → IsName bs → lexeme_at at (bs ++ (32 ∷ rest)) ≡ lexeme.Token (token.Name (record { text = bs; location = at }))
      (length bs)
  read_name [] n = absurd (let h = n.letter in cc)
  read_name (b ∷ bs) n = read_letter b bs n.letter (all_words (b ∷ bs) n.words) (no_keyword (b ∷ bs) n.no_keyword)

  digits_model : IsNumeralModel (AllIn is_digit) (value_after 0)
  digits_model =
      numerals_by_fold (AllIn is_digit) (record {
        empty = tt;
        parts = λ c cs h. (digit_range c h.0, h.1);
        more = λ c cs r h. (range_digit c r, h);
      }) value_after
      (record { empty = λ n. refl; more = λ n c cs r. refl })

  digit_only : (b : ℕ) → is_digit b ≡ true → (is_blank b ≡ false) × (nat_eq b 35 ≡ false)
  digit_only b h = (grind (arith, nat_tests), grind (arith, nat_tests))

  pick_digit : (a b c : Bool) (v w x y : Lexeme) → a ≡ false → b ≡ false → c ≡ true →
      (if a then v else (if b then w else (if c then x else y))) ≡ x
  pick_digit a b c v w x y p q r = rw (p, q, r) refl

  read_digits : (b : ℕ) (bs : List ℕ) → AllIn is_digit (b ∷ bs) → nat_lt largest (value_after 0 (b ∷ bs)) ≡ false →
      lexeme_at at (b ∷ (bs ++ (32 ∷ rest))) ≡ lexeme.Token (token.Number (record { value = pos (value_after 0 (b ∷ bs)); location = at }))
      (length (b ∷ bs))
  unfolding lexeme_at
  read_digits b bs all fits =
      let o = digit_only b all.0 in
      let text = b ∷ (bs ++ (32 ∷ rest)) in
      let spanned : prefix_len is_digit text ≡ length (b ∷ bs) = run is_digit (b ∷ bs) 32 rest all refl in
      let taken : take (length (b ∷ bs)) text ≡ b ∷ bs = take_front (b ∷ bs) (32 ∷ rest) in
      let dropped : drop (length (b ∷ bs)) text ≡ 32 ∷ rest = drop_front (b ∷ bs) (32 ∷ rest) in
      pick_digit (is_blank b) (nat_eq b 35) (is_digit b) _ _ _ _ o.0 o.1 all.0
      ∙ ap (λ n. number_lexeme at (take n text) (drop n text)) spanned ∙ ap (λ l. number_lexeme at l (drop (length (b ∷ bs)) text)) taken
      ∙ ap (number_lexeme at (b ∷ bs)) dropped
      ∙ ap (λ c. if c || is_word 32 then lexeme.Bad else
      lexeme.Token (token.Number (record { value = pos (value_after 0 (b ∷ bs)); location = at })) (length (b ∷ bs))) fits

  read_decimal : (n : ℕ) → n ≤ largest →
      lexeme_at at (decimal n ++ (32 ∷ rest)) ≡ lexeme.Token (token.Number (record { value = pos n; location = at })) (length (decimal n))
  read_decimal n small =
      by (decimal n) refl (decimal_is_IsNumeral n (omega arith)).0.0
    where
      value : value_after 0 (decimal n) ≡ n
      value = digits_value-decimal digits_model n (omega arith)

      all : AllIn is_digit (decimal n)
      all = digits_decimal digits_model n (omega arith)

      by : (l : List ℕ) → decimal n ≡ l → 0 < length l →
          lexeme_at at (l ++ (32 ∷ rest)) ≡ lexeme.Token (token.Number (record { value = pos n; location = at })) (length l)
      by [] is some = absurd (omega arith)
      by (b ∷ bs) is some =
          let v : value_after 0 (b ∷ bs) ≡ n = ap (value_after 0) (sym is) ∙ value in
          let fits : nat_lt largest (value_after 0 (b ∷ bs)) ≡ false = rw v (grind (arith, nat_tests)) in
          read_digits b bs (subst (AllIn is_digit) is all) fits
          ∙ ap (λ m. lexeme.Token (token.Number (record { value = pos m; location = at })) (length (b ∷ bs))) v

  read_number : (z : ℤ) → IsNumber z →
      lexeme_at at (signed_decimal z ++ (32 ∷ rest)) ≡ lexeme.Token (token.Number (record { value = z; location = at }))
      (length (signed_decimal z))
  read_number (pos n) h = let b = h.bounded in read_decimal n (omega (arith, ints, b))
  read_number (negsuc n) h = absurd (let b = h.no_sign in grind (arith, ints))

  read_mark : (m : Mark) → lexeme_at at (mark_text m ++ (mark_end m ∷ rest)) ≡ lexeme.Token (token.Mark m) (length (mark_text m))
  unfolding lexeme_at
  read_mark mark.OpenParen = refl
  read_mark m = refl

  read_binary : (o : Binary) → lexeme_at at (binary_text o ++ (32 ∷ rest)) ≡ lexeme.Token (token.Binary o) (length (binary_text o))
  unfolding lexeme_at
  read_binary op.Or = refl
  read_binary o = refl

  read_opening : (o : Opening) → lexeme_at at (opening_text o ++ (32 ∷ rest)) ≡ lexeme.Token (token.Opening o at) (length (opening_text o))
  unfolding lexeme_at
  read_opening opening.Print = refl
  read_opening o = refl

  read_token : (t : Token) → IsReal t → lexeme_at at (token_text t ++ (token_end t ∷ rest)) ≡ lexeme.Token (put at t)
      (length (token_text t))
  unfolding lexeme_at
  read_token (token.Name x) h = read_name x.text h
  read_token (token.Number n) h = read_number n.value h
  read_token (token.Binary o) h = read_binary o
  read_token token.Not h = refl
  read_token (token.Opening o p) h = read_opening o
  read_token (token.Mark m) h = read_mark m

  blank_mark : (m : Mark) → lexeme.Blank 1 ≡ lexeme_at at (mark_end m ∷ rest)
  unfolding lexeme_at
  blank_mark mark.End = refl
  blank_mark m = refl

  blank_behind : (t : Token) → lexeme.Blank 1 ≡ lexeme_at at (token_end t ∷ rest)
  unfolding lexeme_at
  blank_behind (token.Mark m) = blank_mark m
  blank_behind (token.Name x) = refl
  blank_behind t = refl

some_name : (bs : List ℕ) → IsName bs → 1 ≤ length bs
some_name [] n = absurd (let h = n.letter in cc)
some_name (b ∷ bs) n = omega arith

some_number : (z : ℤ) → IsNumber z → 1 ≤ length (signed_decimal z)
some_number (pos n) h = let b = h.bounded in (decimal_is_IsNumeral n (omega (arith, ints, b))).0.0
some_number (negsuc n) h = absurd (let b = h.no_sign in grind (arith, ints))

some_text : (t : Token) → IsReal t → 1 ≤ length (token_text t)
some_text (token.Name x) h = some_name x.text h
some_text (token.Number n) h = some_number n.value h
some_text (token.Binary op.Or) h = lit≤ tt
some_text (token.Binary o) h = lit≤ tt
some_text token.Not h = lit≤ tt
some_text (token.Opening opening.Print at) h = lit≤ tt
some_text (token.Opening o at) h = lit≤ tt
some_text (token.Mark mark.End) h = lit≤ tt
some_text (token.Mark m) h = lit≤ tt

-- the line behind a token that begins on that line
abbrev line_behind : ℕ → Token → ℕ
line_behind line t = next_line (line_after line (token_text t)) (token_end t)

-- the tokens of a spelling that begins at that offset and line, and their offsets
abbrev pub placed : ℕ → ℕ → List Token → List Token
placed at line [] = []
placed at line (t ∷ ts) = put (place at line) t ∷ placed (at + length (token_text t) + 1) (line_behind line t) ts

abbrev pub offsets : ℕ → List Token → List ℕ
offsets at [] = []
offsets at (t ∷ ts) = at ∷ offsets (at + length (token_text t) + 1) ts

pub scan_spelling : (ts : List Token) → AreReal ts → (at line : ℕ) →
    scan 0 at line (spelling ts) ≡ Ok (cut (placed at line ts) (offsets at ts))
scan_spelling [] h at line = refl
scan_spelling (t ∷ ts) h at line =
    let n = length (token_text t) in
    let rest = token_end t ∷ spelling ts in
    let all = token_text t ++ rest in
    let grouped : spelling (t ∷ ts) ≡ all = append_assoc (token_text t) (token_end t ∷ []) (spelling ts) in
    let room : n ≤ length all = omega (arith, length-append (token_text t) rest) in
    let token' = pass_token at line n (put (place at line) t) all (some_text t h.0) room
    (sym (read_token (place at line) (spelling ts) t h.0)) in
    let mid = line_after line (token_text t) in
    let blank = pass_blank (at + n) mid 1 rest (lit≤ tt) (omega arith) (blank_behind (place (at + n) mid) (spelling ts) t) in
    ap (scan 0 at line) grouped ∙ token'
    ∙ ap (λ l. with_front (put (place at line) t) at (scan 0 (at + n) (line_after line l) (drop n all))) (take_front (token_text t) rest)
    ∙ ap (λ l. with_front (put (place at line) t) at (scan 0 (at + n) mid l)) (drop_front (token_text t) rest)
    ∙ ap (with_front (put (place at line) t) at) (blank ∙ scan_spelling ts h.1 (at + n + 1) (line_behind line t))

-- The tokens are the same but for their locations.

bare_put : (at : Location) (t : Token) → bare (put at t) ≡ bare t
bare_put at (token.Name x) = refl
bare_put at (token.Number n) = refl
bare_put at (token.Binary o) = refl
bare_put at token.Not = refl
bare_put at (token.Opening o p) = refl
bare_put at (token.Mark m) = refl

bare_placed : (at line : ℕ) (ts : List Token) → map bare (placed at line ts) ≡ map bare ts
bare_placed at line [] = refl
bare_placed at line (t ∷ ts) =
    ap (λ x. x ∷ map bare (placed (at + length (token_text t) + 1) (line_behind line t) ts)) (bare_put (place at line) t)
    ∙ ap (λ l. bare t ∷ l) (bare_placed (at + length (token_text t) + 1) (line_behind line t) ts)

real_put : (at : Location) (t : Token) → IsReal t → IsReal (put at t)
real_put at (token.Name x) h = h
real_put at (token.Number n) h = h
real_put at (token.Binary o) h = tt
real_put at token.Not h = tt
real_put at (token.Opening o p) h = tt
real_put at (token.Mark m) h = tt

real_placed : (at line : ℕ) (ts : List Token) → AreReal ts → AreReal (placed at line ts)
real_placed at line [] h = tt
real_placed at line (t ∷ ts) h = (real_put (place at line) t h.0, real_placed (at + length (token_text t) + 1) (line_behind line t) ts h.1)

-- Each byte is below 128.

abbrev AreAscii : List ℕ → Type 0
AreAscii [] = Unit {0}
AreAscii (b ∷ bs) = (b < 128) × AreAscii bs

ascii_append : (a b : List ℕ) → AreAscii a → AreAscii b → AreAscii (a ++ b)
ascii_append [] b h g = g
ascii_append (x ∷ a) b h g = (h.0, ascii_append a b h.1 g)

ascii_in : (p : ℕ → Bool) → ((b : ℕ) → p b ≡ true → b < 128) → (bs : List ℕ) → AllIn p bs → AreAscii bs
ascii_in p low [] h = tt
ascii_in p low (b ∷ bs) h = (low b h.0, ascii_in p low bs h.1)

low_word : (b : ℕ) → is_word b ≡ true → b < 128
low_word b h = grind (arith, nat_tests)

low_digit : (b : ℕ) → is_digit b ≡ true → b < 128
low_digit b h = grind (arith, nat_tests)

ascii_number : (z : ℤ) → IsNumber z → AreAscii (signed_decimal z)
ascii_number (pos n) h = let b = h.bounded in
    ascii_in is_digit low_digit (decimal n) (digits_decimal (digits_model start []) n (omega (arith, ints, b)))
ascii_number (negsuc n) h = absurd (let b = h.no_sign in grind (arith, ints))

ascii_mark : (m : Mark) → AreAscii (mark_text m ++ mark_end m ∷ [])
ascii_mark mark.End = search (rules, arith)
ascii_mark m = search (rules, arith)

ascii_token : (t : Token) → IsReal t → AreAscii (spelled t)
ascii_token (token.Name x) h = ascii_append x.text (32 ∷ []) (ascii_in is_word low_word x.text (all_words x.text h.words)) (lit≤ tt, tt)
ascii_token (token.Number n) h = ascii_append (signed_decimal n.value) (32 ∷ []) (ascii_number n.value h) (lit≤ tt, tt)
ascii_token (token.Binary op.Or) h = search (rules, arith)
ascii_token (token.Binary o) h = search (rules, arith)
ascii_token token.Not h = search (rules, arith)
ascii_token (token.Opening opening.Print p) h = search (rules, arith)
ascii_token (token.Opening o p) h = search (rules, arith)
ascii_token (token.Mark m) h = ascii_mark m

ascii_spelling : (ts : List Token) → AreReal ts → AreAscii (spelling ts)
ascii_spelling [] h = tt
ascii_spelling (t ∷ ts) h = ascii_append (spelled t) (spelling ts) (ascii_token t h.0) (ascii_spelling ts h.1)

ascii_to : (bs : List ℕ) → AreAscii bs → IsAsciiTo bs (length bs)
ascii_to [] h k within = absurd (omega arith)
ascii_to (b ∷ bs) h zero within = h.0
ascii_to (b ∷ bs) h (suc k) within = ascii_to bs h.1 k (omega arith)

pub reads_back : (p : ProgramTree) → IsTree limit limit p → length (spelling (program_tokens p)) ≤ longest → IsReadBack p
reads_back p tree fits =
    let ts = program_tokens p in
    let m = program_moves limit limit p tree.is_block (placed 0 1 ts) (record { all = bare_placed 0 1 ts }) in
    record {
      again = m.there;
      text = record {
        plain = record { fits = fits; ascii = ascii_to (spelling ts) (ascii_spelling ts tree.are_real) };
        offsets = offsets 0 ts;
        tokens = scan_spelling ts tree.are_real 0 1 ∙ ap (λ us. Ok (cut us (offsets 0 ts))) (sym m.has);
        stands = record { is_block = m.block; are_real = subst AreReal (sym m.has) (real_placed 0 1 ts tree.are_real) };
      };
      same = m.same;
    }
