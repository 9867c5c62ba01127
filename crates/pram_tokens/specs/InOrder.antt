-- Where the tokens of a text stand.
use Rattle.std.specs.Prelude.{ℕ, ◌-◌, ◌<◌, List, [], ◌∷◌, ◌++◌, length, slice_index_or}
use Rattle.std.specs.List.{All}
use Rattle.std.specs.List.Sorted.{IsStrictlyIncreasing}
use Rattle.pram_tokens.specs.declared.token.Token.{Token}
use Rattle.pram_tokens.specs.declared.token.Token.TheVariants as token

-- the offset of a token, where its place is kept
abbrev pub place_of : Token → List ℕ
place_of (token.Name x) = x.location.offset ∷ []
place_of (token.Number n) = n.location.offset ∷ []
place_of (token.Opening o l) = l.offset ∷ []
place_of (token.Binary o) = []
place_of token.Not = []
place_of (token.Mark m) = []

-- the offsets that are kept of some tokens
abbrev pub places : List Token → List ℕ
places [] = []
places (t ∷ ts) = place_of t ++ places ts

-- tokens in the order in which they stand in a text of that length
pub record StandInOrder (end : ℕ) (ts : List Token) : Type 0 where
  pub ascend : IsStrictlyIncreasing (places ts)
  pub inside : All (λ at. at < end) (places ts)

-- the offset of the token that has `left` tokens from it on, and at 0 that of the text's end
abbrev pub offset_of : (offsets : List ℕ) (left end : ℕ) → ℕ
offset_of offsets left end = slice_index_or offsets (length offsets - left) end
