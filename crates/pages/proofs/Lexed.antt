-- The text of tokens, as it stands in a page, has these tokens.
use Rattle.std.proofs.Common.{◌≡◌, ◌∙◌, ◌<◌, ◌^◌, ◌+◌, ◌%◌, ◌&&◌, ◌++◌, ◌∷◌, [], Bool, true, false, cond, List, ℕ, ap, ap₂, append_assoc}
use Rattle.std.proofs.Common.{arith}
use Rattle.std.proofs.Common.{decimal, refl, sym}
use Rattle.std.proofs.lemmas.Bool.{ne_eqb}
use Rattle.std.proofs.lemmas.Fmt.{decimal_by_steps}
use Rattle.json.specs.Token.{Token, begin_object, end_object, begin_array, end_array, key, string, number, boolean, null, bad}
use Rattle.json.specs.Word.{ends_word, word}
use Rattle.json.specs.Lex.{Lexeme, between, comma, fresh, lex, punctuate, string_token, token, tokens}
use Rattle.json.specs.Print.{ArePrintable, IsPrintable, begins, ends, escape, print, print_from, quoted, token_text}
use Rattle.json.proofs.Printed.Numbers.{in_word-ended, lex-number}
use Rattle.json.proofs.Printed.Strings.{content-escape, lex-escape}
use Rattle.json.proofs.Printed.Tokens.{tokens-print}
use Rattle.pages.specs.Facts.{embedded}
use Rattle.pages.proofs.Embedding.{embedded-append}
use Rattle.pages.proofs.Strings.{content_embedded, lex_embedded}

-- a token that can be written, whose number, if it is one, stands in a page as it is
abbrev pub IsKept : Token → Type 0
IsKept (number s) = embedded s ≡ s
IsKept _ = Unit {0}

unfoldable pub AreKept : List Token → Type 0
AreKept [] = Unit {0}
AreKept (t ∷ ts) = IsKept t × AreKept ts

pub kept-append : (ts us : List Token) → AreKept ts → AreKept us → AreKept (ts ++ us)
unfolding AreKept
kept-append [] us h k = k
kept-append (t ∷ ts) us h k = (h.0, kept-append ts us h.1 k)

-- a digit stands there as it is
digit : (n : ℕ) → n < 10 → embedded ((48 + n) ∷ []) ≡ (48 + n) ∷ []
digit n below = rw (ne_eqb (48 + n) 60 (λ e. omega arith), ne_eqb (48 + n) 10 (λ e. omega arith)) refl

pub decimal_kept : (n : ℕ) → n < 2 ^ 64 → embedded (decimal n) ≡ decimal n
decimal_kept = decimal_by_steps (λ n ds. embedded ds ≡ ds) digit
    (λ n ds low h. embedded-append ds ((48 + n % 10) ∷ []) ∙ ap₂ (λ a b. a ++ b) h (digit (n % 10) (omega arith)))

-- after a value stands a comma, a closing bracket or nothing
kept_ends : (ts : List Token) → ends_word (embedded (print_from true ts)) ≡ true
unfolding print_from
kept_ends [] = refl
kept_ends (begin_object ∷ ts) = refl
kept_ends (end_object ∷ ts) = refl
kept_ends (begin_array ∷ ts) = refl
kept_ends (end_array ∷ ts) = refl
kept_ends (key s ∷ ts) = refl
kept_ends (string s ∷ ts) = refl
kept_ends (number s ∷ ts) = refl
kept_ends (boolean b ∷ ts) = refl
kept_ends (null ∷ ts) = refl
kept_ends (bad ∷ ts) = refl

printed_ends : (ts : List Token) → ends_word (print_from true ts) ≡ true
unfolding print_from
printed_ends [] = refl
printed_ends (begin_object ∷ ts) = refl
printed_ends (end_object ∷ ts) = refl
printed_ends (begin_array ∷ ts) = refl
printed_ends (end_array ∷ ts) = refl
printed_ends (key s ∷ ts) = refl
printed_ends (string s ∷ ts) = refl
printed_ends (number s ∷ ts) = refl
printed_ends (boolean b ∷ ts) = refl
printed_ends (null ∷ ts) = refl
printed_ends (bad ∷ ts) = refl

-- a string, in a page and as it is printed
embedded_quoted : (s r : List ℕ) → embedded (quoted s ++ r) ≡ 34 ∷ (embedded (escape s) ++ 34 ∷ embedded r)
embedded_quoted s r =
    ap (λ l. 34 ∷ embedded l) (append_assoc (escape s) (34 ∷ []) r) ∙ ap (λ l. 34 ∷ l) (embedded-append (escape s) (34 ∷ r))

quoted_there : (s r : List ℕ) → lex between (embedded (quoted s ++ r)) ≡ token (string s) ∷ lex between (embedded r)
unfolding lex
quoted_there s r =
    ap (lex between) (embedded_quoted s r)
    ∙ ap₂ (λ o l. token (string_token o) ∷ l) (content_embedded s (embedded r)) (lex_embedded s (embedded r))

quoted_here : (s r : List ℕ) → lex between (quoted s ++ r) ≡ token (string s) ∷ lex between r
unfolding lex
quoted_here s r =
    ap (λ l. lex between (34 ∷ l)) (append_assoc (escape s) (34 ∷ []) r)
    ∙ ap₂ (λ o l. token (string_token o) ∷ l) (content-escape s r) (lex-escape s r)

-- one token, and what is behind it
token_same : (t : Token) (r : List ℕ) → IsPrintable t → IsKept t → (ends t ≡ true → ends_word r ≡ true) →
    (ends t ≡ true → ends_word (embedded r) ≡ true) → lex between (embedded r) ≡ lex between r →
    lex between (embedded (token_text t ++ r)) ≡ lex between (token_text t ++ r)
unfolding lex word
token_same begin_object r h k e f same = ap (λ l. token begin_object ∷ l) same
token_same end_object r h k e f same = ap (λ l. token end_object ∷ l) same
token_same begin_array r h k e f same = ap (λ l. token begin_array ∷ l) same
token_same end_array r h k e f same = ap (λ l. token end_array ∷ l) same
token_same (key s) r h k e f same =
    let whole = append_assoc (quoted s) (58 ∷ []) r in
    ap (λ l. lex between (embedded l)) whole ∙ quoted_there s (58 ∷ r) ∙ ap (λ l. token (string s) ∷ Rattle.json.specs.Lex.colon ∷ l) same
    ∙ sym (ap (lex between) whole ∙ quoted_here s (58 ∷ r))
token_same (string s) r h k e f same = quoted_there s r ∙ ap (λ l. token (string s) ∷ l) same ∙ sym (quoted_here s r)
token_same (number s) r h k e f same =
    ap (lex between) (embedded-append s r ∙ ap (λ l. l ++ embedded r) k) ∙ lex-number s (embedded r) h (f refl)
    ∙ ap (λ l. token (number s) ∷ l) same ∙ sym (lex-number s r h (e refl))
token_same (boolean true) r h k e f same =
    ap₂ (λ b l. token (cond b (boolean true) bad) ∷ l) (f refl) (in_word-ended (embedded r) (f refl)) ∙ ap
    (λ l. token (boolean true) ∷ l) same
    ∙ sym (ap₂ (λ b l. token (cond b (boolean true) bad) ∷ l) (e refl) (in_word-ended r (e refl)))
token_same (boolean false) r h k e f same =
    ap₂ (λ b l. token (cond b (boolean false) bad) ∷ l) (f refl) (in_word-ended (embedded r) (f refl)) ∙ ap
    (λ l. token (boolean false) ∷ l) same
    ∙ sym (ap₂ (λ b l. token (cond b (boolean false) bad) ∷ l) (e refl) (in_word-ended r (e refl)))
token_same null r h k e f same =
    ap₂ (λ b l. token (cond b null bad) ∷ l) (f refl) (in_word-ended (embedded r) (f refl)) ∙ ap (λ l. token null ∷ l) same
    ∙ sym (ap₂ (λ b l. token (cond b null bad) ∷ l) (e refl) (in_word-ended r (e refl)))
token_same bad r h k e f same = absurd h

separated : (b : Bool) (r : List ℕ) → lex between (embedded r) ≡ lex between r →
    lex between (embedded (cond b (44 ∷ []) [] ++ r)) ≡ lex between (cond b (44 ∷ []) [] ++ r)
unfolding lex
separated true r same = ap (λ l. comma ∷ l) same
separated false r same = same

print_same : (c : Bool) (ts : List Token) → ArePrintable ts → AreKept ts → lex between (embedded (print_from c ts)) ≡ lex between
    (print_from c ts)
unfolding lex print_from ArePrintable AreKept
print_same c [] h k = refl
print_same c (t ∷ ts) h k =
    separated (c && begins t) (token_text t ++ print_from (ends t) ts)
    (token_same t (print_from (ends t) ts) h.0 k.0 (λ e. ap (λ b. ends_word (print_from b ts)) e ∙ printed_ends ts)
    (λ e. ap (λ b. ends_word (embedded (print_from b ts))) e ∙ kept_ends ts) (print_same (ends t) ts h.1 k.1))

-- the tokens that were printed are read from the page
pub tokens_embedded : (ts : List Token) → ArePrintable ts → AreKept ts → tokens (embedded (print ts)) ≡ ts
tokens_embedded ts h k = ap (punctuate fresh) (print_same false ts h k) ∙ tokens-print ts h
