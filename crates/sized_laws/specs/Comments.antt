-- Comments of a text, and braces of its expansion.
use Rattle.std.specs.Prelude.{◌≡◌, ◌≢◌, ℕ, ◌<◌, List, ◌∷◌, length, slice_index, Ok}
use Rattle.sized_texts.specs.declared.size.Size.{Size}
use Rattle.sized_texts.specs.Expansion.{expansion}
use Rattle.sized_texts.specs.Pieces.{Expansion}
use Rattle.sized_texts.specs.SizeLines.{sizes_of}

-- the byte at an offset stands in a comment: a `#` is before it in its line
pub record IsInComment (text : List ℕ) (k : ℕ) : Type 0 where
  pub hash : ℕ
  pub before : hash < k
  pub is_hash : slice_index text hash ≡ 35
  pub same_line : (i : ℕ) → hash < i → i < k → slice_index text i ≢ 10

-- each `{` of a text stands in a comment
abbrev pub HasBracesInComments : List ℕ → Type 0
HasBracesInComments text = (k : ℕ) → k < length text → slice_index text k ≡ 123 → IsInComment text k

-- in an expansion of a text that has a size each `{` stands in a comment
abbrev pub NoBraceIsLeft : Type 0
NoBraceIsLeft =
    (given : List Size) (text : List ℕ) (size : Size) (more : List Size) (e : Expansion) →
    sizes_of given text ≡ Ok (size ∷ more) → expansion given text ≡ Ok e → HasBracesInComments e.text
