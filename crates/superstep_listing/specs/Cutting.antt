-- Texts cut at a byte.
use Rattle.std.specs.Prelude.{◌≡◌, ℕ, List, [], ◌∷◌, ◌++◌, ℤ, Option, Some, None}
use Rattle.std.specs.Borrow.{Bor}
use Rattle.std.specs.Fmt.{signed_decimal}
use Rattle.std.specs.List.{flat_map}

-- a text without that byte
abbrev pub Lacks : ℕ → List ℕ → Type 0
Lacks byte [] = Unit {0}
Lacks byte (b ∷ rest) = (b ≡ byte → ⊥) × Lacks byte rest

-- a text with that byte behind the first part of it, which has none
pub record IsCut (byte : ℕ) (text front back : List ℕ) : Type 0 where
  pub whole : text ≡ front ++ byte ∷ back
  pub lacks : Lacks byte front

-- numbers in decimal, each behind a space
abbrev pub spaced : List ℤ → List ℕ
spaced = flat_map (λ z. 32 ∷ signed_decimal z)

-- what stands behind a word: nothing, or a space and that text
abbrev pub behind_word : Option (Bor (List ℕ)) → List ℕ
behind_word None = []
behind_word (Some rest) = 32 ∷ rest.now
