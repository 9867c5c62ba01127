-- A text cut into tokens: white space and comments are left out, and each token is the longest that stands at its place.
use Rattle.std.specs.Prelude.{◌≡◌, ℕ, zero, suc, ◌+◌, ◌-◌, if◌then◌else◌, ◌==◌, List, [], ◌∷◌, Result, Ok, Err}
use Rattle.pram_tokens.specs.declared.error.LexError.{LexError}
use Rattle.pram_tokens.specs.declared.error.LexError.TheVariants.{OutOfMemory, BadToken}
use Rattle.pram_tokens.specs.declared.lexer.Lexeme.{Lexeme}
use Rattle.pram_tokens.specs.declared.lexer.Lexeme.TheVariants as lexeme
use Rattle.pram_tokens.specs.declared.token.Location.{Location}
use Rattle.pram_tokens.specs.declared.token.Token.{Token}
use Rattle.pram_tokens.specs.Lexemes.{lexeme_at}

-- the line behind a byte: one more behind an LF
abbrev pub next_line : ℕ → ℕ → ℕ
next_line line b = if b == 10 then line + 1 else line

-- the line behind these bytes
abbrev pub line_after : ℕ → List ℕ → ℕ
line_after line [] = line
line_after line (b ∷ rest) = line_after (next_line line b) rest

-- tokens, and the offset of each
pub record Cut : Type 0 where
  pub tokens : List Token
  pub offsets : List ℕ

-- those tokens and offsets
abbrev pub cut : List Token → List ℕ → Cut
cut ts os = record { tokens = ts; offsets = os }

-- one more token in front
abbrev pub with_front : Token → ℕ → Result Cut ℕ → Result Cut ℕ
with_front t at (Ok found) = Ok (cut (t ∷ found.tokens) (at ∷ found.offsets))
with_front t at (Err bad) = Err bad

-- What a lexeme at that offset gives. `rest n` is the reading behind the first byte that skips n bytes.
abbrev pub scan_by : Lexeme → ℕ → (ℕ → Result Cut ℕ) → Result Cut ℕ
scan_by (lexeme.Blank n) at rest = rest (n - 1)
scan_by (lexeme.Token t n) at rest = with_front t at (rest (n - 1))
scan_by lexeme.Bad at rest = Err at

-- the place of that offset and line
abbrev pub place : ℕ → ℕ → Location
place at line = record { offset = at; line = line }

-- The tokens behind the first `skip` bytes of a text that begins at that offset and line, or the offset of the first thing that is no
-- token.
abbrev pub scan : (skip at line : ℕ) → List ℕ → Result Cut ℕ
scan skip at line [] = Ok (cut [] [])
scan zero at line (b ∷ bs) = scan_by (lexeme_at (place at line) (b ∷ bs)) at (λ n. scan n (at + 1) (next_line line b) bs)
scan (suc n) at line (b ∷ bs) = scan n (at + 1) (next_line line b) bs

-- the tokens of a whole text, or the offset of the first thing that is no token
abbrev pub cut_of : List ℕ → Result Cut ℕ
cut_of text = scan 0 0 1 text

-- the greatest length of a text
abbrev pub longest : ℕ
longest = 1048576

-- what a function answered is what the text is cut into, unless memory was refused
abbrev pub Finds : {X : Type 0} → (X → Cut) → Result X LexError → Result Cut ℕ → Type 0
Finds view (Ok x) read = read ≡ Ok (view x)
Finds view (Err OutOfMemory) read = Unit {0}
Finds view (Err (BadToken at)) read = read ≡ Err at
