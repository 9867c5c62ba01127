-- What a text expands to by its bytes and its expressions, whatever reads it.
use Rattle.std.specs.Prelude.{◌≡◌, ◌≢◌, ◌↔◌, ℕ, ◌+◌, ◌<◌, ◌≤◌, Bool, false, true, List, [], ◌∷◌, ◌++◌, length, map, slice_index}
use Rattle.std.specs.Prelude.{decimal, None, Ok}
use Rattle.pram_tokens.specs.Scanning.{longest}
use Rattle.sized_texts.specs.declared.size.Size.{Size}
use Rattle.sized_texts.specs.Expansion.{expansion, undeclared}
use Rattle.sized_texts.specs.Filling.{filled}
use Rattle.sized_texts.specs.Grammar.{IsExpression}
use Rattle.sized_texts.specs.Pieces.{Expansion}
use Rattle.sized_texts.specs.SizeLines.{sizes_of}

-- A text that begins at an offset, in a comment or not, expands to bytes, each of which came from its place:
--   outside comments a byte stands as it is, but for `{`; a `#` begins a comment;
--   in a comment each byte stands as it is, up to the line's end;
--   `{`, an expression and its `}` give the digits of its number, all from the place of the `{`.
pub data Expands (sizes : List Size) : (comment : Bool) → (at : ℕ) → (text bytes places : List ℕ) → Type 0 where
  end : (comment : Bool) (at : ℕ) → Expands sizes comment at [] [] []
  byte : (at b : ℕ) (rest bytes places : List ℕ) → b ≢ 35 → b ≢ 123 → Expands sizes false (at + 1) rest bytes places →
      Expands sizes false at (b ∷ rest) (b ∷ bytes) (at ∷ places)
  hash : (at : ℕ) (rest bytes places : List ℕ) → Expands sizes true (at + 1) rest bytes places →
      Expands sizes false at (35 ∷ rest) (35 ∷ bytes) (at ∷ places)
  commented : (at b : ℕ) (rest bytes places : List ℕ) → b ≢ 10 → Expands sizes true (at + 1) rest bytes places →
      Expands sizes true at (b ∷ rest) (b ∷ bytes) (at ∷ places)
  line_end : (at : ℕ) (rest bytes places : List ℕ) → Expands sizes false (at + 1) rest bytes places →
      Expands sizes true at (10 ∷ rest) (10 ∷ bytes) (at ∷ places)
  expression : (at v : ℕ) (inside behind bytes places : List ℕ) → IsExpression sizes (inside ++ behind) v behind →
      Expands sizes false (at + 1 + length inside) behind bytes places →
      Expands sizes false at (123 ∷ (inside ++ behind)) (decimal v ++ bytes) (map (λ _. at) (decimal v) ++ places)

-- a text as it stands: each byte came from where it is
pub record IsItself (text : List ℕ) (e : Expansion) : Type 0 where
  pub same : e.text ≡ text
  pub many : length e.places ≡ length text
  pub places : (k : ℕ) → k < length text → slice_index e.places k ≡ k

-- a text without sizes is itself, and one with sizes expands by them to at most 1,048,576 bytes
abbrev pub ExpandsBy : List Size → (text : List ℕ) → Expansion → Type 0
ExpandsBy [] text e = IsItself text e
ExpandsBy (s ∷ sizes) text e = Expands (s ∷ sizes) false 0 text e.text e.places × (length e.text ≤ longest)

-- the expansion of a text where those numbers are given, each for one of its sizes
pub record IsExpansion (given : List Size) (text : List ℕ) (e : Expansion) : Type 0 where
  pub sizes : List Size
  pub declared : sizes_of given text ≡ Ok sizes
  pub known : undeclared sizes given ≡ None
  pub expands : ExpandsBy sizes text e

-- a text has an expansion exactly where it expands by its sizes
abbrev pub TextsExpand : Type 0
TextsExpand = (given : List Size) (text : List ℕ) (e : Expansion) → (expansion given text ≡ Ok e) ↔ IsExpansion given text e

-- a text that is filled by sizes, whose comments stand too, and which has at most 1,048,576 bytes
pub record IsFilled (sizes : List Size) (text bytes : List ℕ) : Type 0 where
  pub places : List ℕ
  pub expands : Expands sizes false 0 text bytes places
  pub fits : length text ≤ longest

-- a text is filled exactly where it expands by the sizes
abbrev pub TextsAreFilled : Type 0
TextsAreFilled = (sizes : List Size) (text bytes : List ℕ) → (filled sizes text ≡ Ok bytes) ↔ IsFilled sizes text bytes
