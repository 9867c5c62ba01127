-- No line of a message ends within.
use Rattle.std.proofs.Common.{◌≡◌, ◌∙◌, ◌+◌, ◌/◌, ◌%◌, ◌==◌, ◌<◌, ◌++◌, ◌∷◌, [], true, false, Bool, List, ℕ, zero, suc, ap, arith, cond}
use Rattle.std.proofs.Common.{length, refl, sym}
use Rattle.std.proofs.Common.{Option, Some, None, append_assoc, eqb-true}
use Rattle.std.specs.List.{AllByRecursion}
use Rattle.std.specs.Prelude.{codes, decimal}
use Rattle.std.proofs.lemmas.Bool.Decides.{nat_tests}
use Rattle.std.specs.Fmt.{digit_glyph, digits, digits_onto}
use Rattle.std.proofs.lemmas.List.{append-nil}
use Rattle.text_places.specs.Escaped.{HasNoControl, escaped, is_control}
use Rattle.text_places.specs.Excerpts.{shown, shown_byte}
use Rattle.text_places.proofs.Escaping.{control_free, no_control}
use Rattle.text_places.specs.Places.{place_of}
use Rattle.help.specs.declared.message.Other.{Other}
use Rattle.help.specs.declared.message.Point.{Point}
use Rattle.help.specs.declared.message.Point.TheVariants.{Byte, Line}
use Rattle.help.specs.Messages.{Message}
use Rattle.help.specs.GnuLines.{AreLines, IsOneLine, bracketed, coded, count_if, count_other, ended, error, error_line}
use Rattle.help.specs.GnuLines.{error_text, file}
use Rattle.help.specs.GnuLines.{gnu_lines, gnu_text, line_ends, more_text, note, note_line, number, one_if, other_lines}
use Rattle.help.specs.GnuLines.{other_note, other_place}
use Rattle.help.specs.GnuLines.{other_text, place, point, spaced, things, with_code}

ends_step : (c : Bool) (a b n : ℕ) → a ≡ n + b → cond c (1 + a) a ≡ cond c (1 + n) n + b
ends_step true a b n h = omega (arith, h)
ends_step false a b n h = h

pub ends_append : (a b : List ℕ) → line_ends (a ++ b) ≡ line_ends a + line_ends b
ends_append [] b = omega arith
ends_append (x ∷ a) b = ends_step (x == 10) (line_ends (a ++ b)) (line_ends b) (line_ends a) (ends_append a b)

both : (a b : List ℕ) → IsOneLine a → IsOneLine b → IsOneLine (a ++ b)
both a b h g = let e = ends_append a b in omega (arith, e, h, g)

-- ---- what is shown

one_more : (x : ℕ) (xs : List ℕ) → (x == 10) ≡ false → IsOneLine xs → IsOneLine (x ∷ xs)
one_more x xs none rest = ap (λ c. cond c (1 + line_ends xs) (line_ends xs)) none ∙ rest

byte_stays : (b : ℕ) → (shown_byte b == 10) ≡ false
byte_stays b = grind (arith, nat_tests)

-- a text with no control byte
no_end : (b : ℕ) → is_control b ≡ false → (b == 10) ≡ false
no_end b is = by (b == 10) refl
  where
    by : (c : Bool) → (b == 10) ≡ c → c ≡ false
    by false at = refl
    by true at = let ten : b ≡ 10 = eqb-true b 10 at in sym (ap is_control ten) ∙ is

escaped_stays : (text : List ℕ) → HasNoControl text → IsOneLine text
escaped_stays [] has = refl
escaped_stays (b ∷ rest) has = one_more b rest (no_end b (control_free b rest has.0)) (escaped_stays rest has.1)

shown_stays : (text : List ℕ) → IsOneLine (shown text)
shown_stays [] = refl
shown_stays (b ∷ rest) = one_more (shown_byte b) (shown rest) (byte_stays b) (shown_stays rest)

-- ---- numbers

glyph_stays : (d : ℕ) → d < 10 → (digit_glyph false d == 10) ≡ false
glyph_stays d h = grind (arith, nat_tests)

either_stays : (c : Bool) (xs ys : List ℕ) → IsOneLine xs → IsOneLine ys → IsOneLine (cond c xs ys)
either_stays true xs ys h g = h
either_stays false xs ys h g = g

onto_stays : (k n : ℕ) (acc : List ℕ) → IsOneLine acc → IsOneLine (digits_onto k 10 false n acc)
onto_stays zero n acc h = h
onto_stays (suc k) n acc h =
    let d = digit_glyph false (n % 10) in
    let more : IsOneLine (d ∷ acc) = one_more d acc (glyph_stays (n % 10) (omega arith)) h in
    either_stays (n / 10 == 0) (d ∷ acc) (digits_onto k 10 false (n / 10) (d ∷ acc)) more (onto_stays k (n / 10) (d ∷ acc) more)

decimal_stays : (n : ℕ) → IsOneLine (decimal n)
unfolding digits
decimal_stays n = onto_stays 64 n [] refl

number_stays : (n : ℕ) → IsOneLine (number n)
number_stays n = both (decimal n) (codes ":") (decimal_stays n) refl

-- ---- lines

point_stays : (bytes : List ℕ) (p : Option Point) → IsOneLine (point bytes p)
point_stays bytes None = refl
point_stays bytes (Some (Line line)) = number_stays line
point_stays bytes (Some (Byte at)) =
    let p = place_of bytes at in both (number p.line) (number p.column) (number_stays p.line) (number_stays p.column)

place_stays : (name bytes : List ℕ) (p : Option Point) → IsOneLine (place name bytes p)
place_stays name bytes p =
    both (file name) (spaced bytes p) (both (escaped name) (codes ":") (escaped_stays (escaped name) (no_control name)) refl)
    (both (point bytes p) (codes " ") (point_stays bytes p) refl)

coded_stays : (code : List ℕ) → IsOneLine (coded code)
coded_stays code = both (codes " [") (bracketed code) refl (both (shown code) (codes "]") (shown_stays code) refl)

error_stays : (sentence code : List ℕ) → IsOneLine (error sentence code)
error_stays sentence code =
    both (codes "error: ") (with_code sentence code) refl (both (shown sentence) (coded code) (shown_stays sentence) (coded_stays code))

note_stays : (sentence : List ℕ) → IsOneLine (note sentence)
note_stays sentence = both (codes "note: ") (shown sentence) refl (shown_stays sentence)

-- ---- all of them

Are : List (List ℕ) → Type 0
Are = AllByRecursion IsOneLine

all_append : (a b : List (List ℕ)) → AllByRecursion IsOneLine a → AllByRecursion IsOneLine b → AllByRecursion IsOneLine (a ++ b)
all_append [] b h g = g
all_append (x ∷ a) b h g = (h.0, all_append a b h.1 g)

ended_append : (a b : List (List ℕ)) → ended (a ++ b) ≡ ended a ++ ended b
ended_append [] b = refl
ended_append (x ∷ a) b =
    ap (λ l. (x ++ codes "\n") ++ l) (ended_append a b) ∙ sym (append_assoc (x ++ codes "\n") (ended a) (ended b))

count_append : (a b : List (List ℕ)) → length (a ++ b) ≡ length a + length b
count_append [] b = omega arith
count_append (x ∷ a) b = let e = count_append a b in omega (arith, e)

ends_ended : (lines : List (List ℕ)) → AllByRecursion IsOneLine lines → line_ends (ended lines) ≡ length lines
ends_ended [] h = refl
ends_ended (x ∷ lines) h =
    let whole = ends_append (x ++ codes "\n") (ended lines) in
    let first = ends_append x (codes "\n") in
    let here : line_ends x ≡ 0 = h.0 in
    let rest = ends_ended lines h.1 in
    omega (arith, whole, first, here, rest)

-- two texts of lines, one behind the other
joined : (x y : List ℕ) (a b : List (List ℕ)) (m n : ℕ) → AreLines x a m → AreLines y b n → AreLines (x ++ y) (a ++ b) (m + n)
joined x y a b m n h g = record {
  whole = ap (λ l. l ++ y) h.whole ∙ ap (λ l. ended a ++ l) g.whole ∙ sym (ended_append a b);
  single = all_append a b h.single g.single;
  counted = let e = count_append a b in let i = h.counted in let j = g.counted in omega (arith, e, i, j);
  ends = let e = ends_append x y in let i = h.ends in let j = g.ends in omega (arith, e, i, j);
}

no_lines : AreLines [] [] 0
no_lines = record { whole = refl; single = tt; counted = refl; ends = refl }

one_line : (line : List ℕ) → IsOneLine line → AreLines (line ++ codes "\n") (line ∷ []) 1
one_line line h = record {
  whole = sym (append-nil (line ++ codes "\n"));
  single = (h, tt);
  counted = refl;
  ends = let e = ends_append line (codes "\n") in omega (arith, e, h);
}

errors : (name bytes : List ℕ) (p : Option Point) (sentence code : List ℕ) →
    AreLines (error_text name bytes p sentence code) (one_if sentence (error_line name bytes p sentence code)) (count_if sentence)
errors name bytes p [] code = no_lines
errors name bytes p (b ∷ rest) code =
    let s = b ∷ rest in
    one_line (error_line name bytes p s code) (both (place name bytes p) (error s code) (place_stays name bytes p) (error_stays s code))

noted : (name bytes : List ℕ) (p : Option Point) (s : List ℕ) → IsOneLine (note_line name bytes p s)
noted name bytes p s = both (place name bytes p) (note s) (place_stays name bytes p) (note_stays s)

mores : (name bytes : List ℕ) (p : Option Point) (more : List ℕ) →
    AreLines (more_text name bytes p more) (one_if more (note_line name bytes p more)) (count_if more)
mores name bytes p [] = no_lines
mores name bytes p (b ∷ rest) = one_line (note_line name bytes p (b ∷ rest)) (noted name bytes p (b ∷ rest))

others : (name bytes : List ℕ) (other : Option Other) → AreLines (other_text name bytes other) (other_lines name bytes other)
    (count_other other)
others name bytes None = no_lines
others name bytes (Some other) =
    let p = Some (other_place other) in
    let s = other_note other in
    one_line (note_line name bytes p s) (noted name bytes p s)

pub message_lines : (name bytes code : List ℕ) (m : Message) → AreLines (gnu_text name bytes m code) (gnu_lines name bytes m code)
    (things m)
message_lines name bytes code m =
    joined (error_text name bytes m.place m.sentence code) (more_text name bytes m.place m.more ++ other_text name bytes m.other)
    (one_if m.sentence (error_line name bytes m.place m.sentence code))
    (one_if m.more (note_line name bytes m.place m.more) ++ other_lines name bytes m.other)
    (count_if m.sentence) (count_if m.more + count_other m.other) (errors name bytes m.place m.sentence code) (
    joined (more_text name bytes m.place m.more) (other_text name bytes m.other) (one_if m.more (note_line name bytes m.place m.more))
    (other_lines name bytes m.other) (count_if m.more) (count_other m.other) (mores name bytes m.place m.more) (others name bytes m.other)
    )
