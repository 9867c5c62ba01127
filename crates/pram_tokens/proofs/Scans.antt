-- Cutting a text into tokens from a place on.
use Rattle.std.proofs.Common.{◌≡◌, ℕ, zero, suc, ◌+◌, ◌-◌, ◌<◌, ◌≤◌, List, [], ◌∷◌, ◌++◌, take, drop, length, Result, Ok, Err, refl, sym}
use Rattle.std.proofs.Common.{ap, ◌∙◌, arith, append_assoc, length-drop, length-append, subst}
use Rattle.std.proofs.lemmas.List.{drop-drop}
use Rattle.pram_tokens.specs.declared.lexer.Lexeme.{Lexeme}
use Rattle.pram_tokens.specs.declared.lexer.Lexeme.TheVariants as lexeme
use Rattle.pram_tokens.specs.declared.token.Token.{Token}
use Rattle.pram_tokens.specs.Lexemes.{lexeme_at, IsWithin}
use Rattle.pram_tokens.specs.Scanning.{Cut, cut, line_after, next_line, place, scan, scan_by, with_front}
use Rattle.pram_tokens.specs.Tokens.{AreReal}
use Rattle.pram_tokens.proofs.Lexing.{IsRealLexeme, lexeme_real}
use Rattle.pram_tokens.proofs.Real.{append_real}

-- the same behind tokens that were found before
abbrev pub behind : Cut → Result Cut ℕ → Result Cut ℕ
behind c (Ok d) = Ok (cut (c.tokens ++ d.tokens) (c.offsets ++ d.offsets))
behind c (Err at) = Err at

scan-drop : (n at line : ℕ) (text : List ℕ) → scan n at line text ≡ scan 0 (at + n) (line_after line (take n text)) (drop n text)
scan-drop zero at line text = let e : at ≡ at + 0 = omega arith in ap (λ i. scan 0 i line text) e
scan-drop (suc n) at line [] = refl
scan-drop (suc n) at line (b ∷ bs) =
    scan-drop n (at + 1) (next_line line b) bs
    ∙ (let e : at + 1 + n ≡ at + suc n = omega arith in ap (λ i. scan 0 i (line_after (next_line line b) (take n bs)) (drop n bs)) e)

behind_front : (at line n b : ℕ) (bs : List ℕ) → 1 ≤ n → scan (n - 1) (at + 1) (next_line line b) bs ≡ scan 0 (at + n)
    (line_after line (take n (b ∷ bs))) (drop n (b ∷ bs))
behind_front at line zero b bs some = absurd (omega arith)
behind_front at line (suc n) b bs some =
    (let e : suc n - 1 ≡ n = omega arith in ap (λ i. scan i (at + 1) (next_line line b) bs) e) ∙ scan-drop n (at + 1) (next_line line b) bs
    ∙ (let e : at + 1 + n ≡ at + suc n = omega arith in ap (λ i. scan 0 i (line_after (next_line line b) (take n bs)) (drop n bs)) e)

pub pass_blank : (at line n : ℕ) (us : List ℕ) → 1 ≤ n → n ≤ length us → lexeme.Blank n ≡ lexeme_at (place at line) us →
    scan 0 at line us ≡ scan 0 (at + n) (line_after line (take n us)) (drop n us)
pass_blank at line n [] some within is = absurd (omega arith)
pass_blank at line n (b ∷ bs) some within is = ap (λ x. scan_by x at (λ m. scan m (at + 1) (next_line line b) bs)) (sym is)
    ∙ behind_front at line n b bs some

pub pass_token : (at line n : ℕ) (t : Token) (us : List ℕ) → 1 ≤ n → n ≤ length us → lexeme.Token t n ≡ lexeme_at (place at line) us →
    scan 0 at line us ≡ with_front t at (scan 0 (at + n) (line_after line (take n us)) (drop n us))
pass_token at line n t [] some within is = absurd (omega arith)
pass_token at line n t (b ∷ bs) some within is =
    ap (λ x. scan_by x at (λ m. scan m (at + 1) (next_line line b) bs)) (sym is) ∙ ap (with_front t at) (behind_front at line n b bs some)

behind-with_front : (ts : List Token) (os : List ℕ) (t : Token) (at : ℕ) (r : Result Cut ℕ) →
    behind (cut ts os) (with_front t at r) ≡ behind (cut (ts ++ t ∷ []) (os ++ at ∷ [])) r
behind-with_front ts os t at (Ok d) =
    let e = append_assoc ts (t ∷ []) d.tokens in
    let k = append_assoc os (at ∷ []) d.offsets in
    ap (λ us. Ok (cut us (os ++ at ∷ d.offsets))) (sym e) ∙ ap (λ ps. Ok (cut ((ts ++ t ∷ []) ++ d.tokens) ps)) (sym k)
behind-with_front ts os t at (Err bad) = refl

-- what holds before each turn of the loop
pub record IsScanned (text : List ℕ) (ts : List Token) (os : List ℕ) (at line : ℕ) : Type 0 where
  pub so : scan 0 0 1 text ≡ behind (cut ts os) (scan 0 at line (drop at text))
  pub fits : at ≤ length text
  pub low : line ≤ 1 + at
  pub even : length ts ≡ length os
  pub real : AreReal ts

-- one turn of the loop, by what stands at the front of the rest
module _ (at line : ℕ) (text rest : List ℕ) (x : Lexeme) (ts : List Token) (os : List ℕ) (value : x ≡ lexeme_at (place at line) rest)
    (is_rest : rest ≡ drop at text)
    (before : IsScanned text ts os at line) (below : ℕ) where
  front : (y : Lexeme) → x ≡ y → y ≡ lexeme_at (place at line) (drop at text)
  front y is = sym is ∙ value ∙ ap (lexeme_at (place at line)) is_rest

  inside : (y : Lexeme) → x ≡ y → IsWithin x rest → IsWithin y (drop at text)
  inside y is h = subst (λ z. IsWithin z (drop at text)) is (subst (IsWithin x) is_rest h)

  pub turn_blank : (n : ℕ) → x ≡ lexeme.Blank n → IsWithin x rest → below ≡ line_after line (take n rest) → below ≤ line + n →
      IsScanned text ts os (at + n) below
  turn_blank n is within e low =
      let w = inside (lexeme.Blank n) is within in
      record {
        so = before.so ∙ ap (behind (cut ts os)) (pass_blank at line n (drop at text) w.0 w.1 (front (lexeme.Blank n) is)
            ∙ ap (scan 0 (at + n) (line_after line (take n (drop at text)))) (drop-drop n at text)
            ∙ ap (λ l. scan 0 (at + n) l (drop (at + n) text)) (sym (e ∙ ap (λ us. line_after line (take n us)) is_rest)));
        fits = omega (arith, length-drop at text, before.fits);
        low = omega (arith, before.low);
        even = before.even;
        real = before.real;
      }

  pub turn_token : (n : ℕ) (t : Token) → x ≡ lexeme.Token t n → IsWithin x rest → below ≡ line_after line (take n rest) → below ≤ line + n →
      IsScanned text (ts ++ t ∷ []) (os ++ at ∷ []) (at + n) below
  turn_token n t is within e low =
      let w = inside (lexeme.Token t n) is within in
      record {
        so = before.so ∙ ap (behind (cut ts os)) (pass_token at line n t (drop at text) w.0 w.1 (front (lexeme.Token t n) is)
            ∙ ap (λ v. with_front t at (scan 0 (at + n) (line_after line (take n (drop at text))) v)) (drop-drop n at text)
            ∙ ap (λ l. with_front t at (scan 0 (at + n) l (drop (at + n) text))) (sym (e ∙ ap (λ us. line_after line (take n us)) is_rest)))
            ∙ behind-with_front ts os t at (scan 0 (at + n) below (drop (at + n) text));
        fits = omega (arith, length-drop at text, before.fits);
        low = omega (arith, before.low);
        even = omega (arith, before.even, length-append ts (t ∷ []), length-append os (at ∷ []));
        real = append_real ts (t ∷ []) before.real (subst IsRealLexeme (sym value ∙ is) (lexeme_real (place at line) rest), tt);
      }

  pub turn_bad : at < length text → x ≡ lexeme.Bad → scan 0 0 1 text ≡ Err at
  turn_bad more is = before.so ∙ ap (behind (cut ts os)) (bad (drop at text) (omega (arith, length-drop at text)) (front lexeme.Bad is))
    where
      bad : (us : List ℕ) → 0 < length us → lexeme.Bad ≡ lexeme_at (place at line) us → scan 0 at line us ≡ Err at
      bad [] some here = absurd (omega arith)
      bad (b ∷ bs) some here = ap (λ y. scan_by y at (λ m. scan m (at + 1) (next_line line b) bs)) (sym here)
