-- Strings whose `<` are written by their number are read as they are without that.
use Rattle.std.proofs.Common.{◌≡◌, ◌∙◌, ◌<◌, ◌≤◌, ◌++◌, ◌∷◌, [], Bool, true, false, cond, List, Some, ℕ, zero, suc, ap, append_assoc, arith}
use Rattle.std.proofs.Common.{refl, subst, sym}
use Rattle.std.proofs.Common.{inl, inr}
use Rattle.std.proofs.lemmas.Bool.{cases_eq, cases_lt, le-ltb, ne_eqb}
use Rattle.std.specs.Prelude.{◌⊎◌}
use lib.Utf8.{encode}
use Rattle.json.specs.Text.{code_unit, content, plain, prepend, short_escape}
use Rattle.json.specs.Word.{is_operator, is_space}
use Rattle.json.specs.Lex.{Lexeme, Mode, between, in_string, lex, lex_byte, operator, other, space}
use Rattle.json.specs.Print.{escape, escape_byte}
use Rattle.json.proofs.Printed.Strings.{escape_byte_plain}
use Rattle.pages.specs.Facts.{embedded}
use Rattle.pages.proofs.Embedding.{embedded-append}

-- what both readers make of the byte x of a string, before any text
record Passes (x : ℕ) : Type 0 where
  read : (r : List ℕ) → content plain (embedded (escape_byte x) ++ r) ≡ prepend (x ∷ []) (content plain r)
  lexed : (r : List ℕ) → lex in_string (embedded (escape_byte x) ++ r) ≡ lex in_string r

-- so below n
abbrev pub Each : (ℕ → Type 0) → ℕ → Type 0
Each P zero = Unit {0}
Each P (suc n) = P n × Each P n

pub each_sound : (P : ℕ → Type 0) (n : ℕ) → Each P n → (x : ℕ) → x < n → P x
each_sound P zero h x lt = absurd (omega arith)
each_sound P (suc n) h x lt = go (each_sound P n h.1 x) (cases_eq x n)
  where
    go : (x < n → P x) → (x ≡ n) ⊎ (x ≡ n → ⊥) → P x
    go below (inl e) = subst P (sym e) h.0
    go below (inr ne) = below (omega arith)

controls : Each Passes 32
unfolding escape_byte content lex code_unit short_escape encode
controls = (
  record { read = λ r. refl; lexed = λ r. refl },
  (
    record { read = λ r. refl; lexed = λ r. refl },
    (
      record { read = λ r. refl; lexed = λ r. refl },
      (
        record { read = λ r. refl; lexed = λ r. refl },
        (
          record { read = λ r. refl; lexed = λ r. refl },
          (
            record { read = λ r. refl; lexed = λ r. refl },
            (
              record { read = λ r. refl; lexed = λ r. refl },
              (
                record { read = λ r. refl; lexed = λ r. refl },
                (
                  record { read = λ r. refl; lexed = λ r. refl },
                  (
                    record { read = λ r. refl; lexed = λ r. refl },
                    (
                      record { read = λ r. refl; lexed = λ r. refl },
                      (
                        record { read = λ r. refl; lexed = λ r. refl },
                        (
                          record { read = λ r. refl; lexed = λ r. refl },
                          (
                            record { read = λ r. refl; lexed = λ r. refl },
                            (
                              record { read = λ r. refl; lexed = λ r. refl },
                              (
                                record { read = λ r. refl; lexed = λ r. refl },
                                (
                                  record { read = λ r. refl; lexed = λ r. refl },
                                  (
                                    record { read = λ r. refl; lexed = λ r. refl },
                                    (
                                      record { read = λ r. refl; lexed = λ r. refl },
                                      (
                                        record { read = λ r. refl; lexed = λ r. refl },
                                        (
                                          record { read = λ r. refl; lexed = λ r. refl },
                                          (
                                            record { read = λ r. refl; lexed = λ r. refl },
                                            (
                                              record { read = λ r. refl; lexed = λ r. refl },
                                              (
                                                record { read = λ r. refl; lexed = λ r. refl },
                                                (
                                                  record { read = λ r. refl; lexed = λ r. refl },
                                                  (
                                                    record { read = λ r. refl; lexed = λ r. refl },
                                                    (
                                                      record { read = λ r. refl; lexed = λ r. refl },
                                                      (
                                                        record { read = λ r. refl; lexed = λ r. refl },
                                                        (
                                                          record { read = λ r. refl; lexed = λ r. refl },
                                                          (
                                                            record { read = λ r. refl; lexed = λ r. refl },
                                                            (
                                                              record { read = λ r. refl; lexed = λ r. refl },
                                                              (
                                                                record { read = λ r. refl; lexed = λ r. refl },
                                                                tt,
                                                              ),
                                                            ),
                                                          ),
                                                        ),
                                                      ),
                                                    ),
                                                  ),
                                                ),
                                              ),
                                            ),
                                          ),
                                        ),
                                      ),
                                    ),
                                  ),
                                ),
                              ),
                            ),
                          ),
                        ),
                      ),
                    ),
                  ),
                ),
              ),
            ),
          ),
        ),
      ),
    ),
  ),
)

quote_passes : Passes 34
unfolding escape_byte content lex short_escape
quote_passes = record { read = λ r. refl; lexed = λ r. refl }

backslash_passes : Passes 92
unfolding escape_byte content lex short_escape
backslash_passes = record { read = λ r. refl; lexed = λ r. refl }

tag_passes : Passes 60
unfolding escape_byte content lex code_unit short_escape encode
tag_passes = record { read = λ r. refl; lexed = λ r. refl }

stays_inside : (o s : Bool) (x : ℕ) (r : List ℕ) (k : Mode → List Lexeme) → lex_byte in_string (cond o operator (cond s space other)) x r k
    ≡ k in_string
stays_inside true s x r k = refl
stays_inside false true x r k = refl
stays_inside false false x r k = refl

one_byte : (x : ℕ) → (x ≡ 60 → ⊥) → 32 ≤ x → embedded (x ∷ []) ≡ x ∷ []
one_byte x t l = rw (ne_eqb x 60 t, ne_eqb x 10 (λ e. omega arith)) refl

plain_passes : (x : ℕ) → (x ≡ 34 → ⊥) → (x ≡ 92 → ⊥) → (x ≡ 60 → ⊥) → 32 ≤ x → Passes x
unfolding content lex
plain_passes x q b t l =
    let same : embedded (escape_byte x) ≡ x ∷ [] = ap embedded (escape_byte_plain x q b l) ∙ one_byte x t l in
    record {
      read = λ r. rw (same, ne_eqb x 34 q, ne_eqb x 92 b, le-ltb x 32 l) refl;
      lexed = λ r. rw (same, ne_eqb x 34 q, ne_eqb x 92 b) (stays_inside (is_operator x) (is_space x) x r (λ m. lex m r));
    }

passes : (x : ℕ) → Passes x
passes x = go (cases_eq x 34) (cases_eq x 92) (cases_eq x 60) (cases_lt x 32)
  where
    go : (x ≡ 34) ⊎ (x ≡ 34 → ⊥) → (x ≡ 92) ⊎ (x ≡ 92 → ⊥) → (x ≡ 60) ⊎ (x ≡ 60 → ⊥) → (x < 32) ⊎ (32 ≤ x) → Passes x
    go (inl e) b t c = subst Passes (sym e) quote_passes
    go (inr q) (inl e) t c = subst Passes (sym e) backslash_passes
    go (inr q) (inr b) (inl e) c = subst Passes (sym e) tag_passes
    go (inr q) (inr b) (inr t) (inl c) = each_sound Passes 32 controls x c
    go (inr q) (inr b) (inr t) (inr l) = plain_passes x q b t l

in_front : (x : ℕ) (s r : List ℕ) → embedded (escape (x ∷ s)) ++ 34 ∷ r ≡ embedded (escape_byte x) ++ (embedded (escape s) ++ 34 ∷ r)
in_front x s r =
    ap (λ l. l ++ 34 ∷ r) (embedded-append (escape_byte x) (escape s)) ∙ append_assoc (embedded (escape_byte x))
    (embedded (escape s)) (34 ∷ r)

pub content_embedded : (s r : List ℕ) → content plain (embedded (escape s) ++ 34 ∷ r) ≡ Some s
unfolding content
content_embedded [] r = refl
content_embedded (x ∷ s) r =
    ap (content plain) (in_front x s r) ∙ (passes x).read _ ∙ ap (prepend (x ∷ [])) (content_embedded s r)

pub lex_embedded : (s r : List ℕ) → lex in_string (embedded (escape s) ++ 34 ∷ r) ≡ lex between r
unfolding lex
lex_embedded [] r = refl
lex_embedded (x ∷ s) r = ap (lex in_string) (in_front x s r) ∙ (passes x).lexed _ ∙ lex_embedded s r
