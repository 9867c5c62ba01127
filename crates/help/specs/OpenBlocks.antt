-- Blocks that have no end.
use Rattle.std.specs.Prelude.{◌≡◌, ℕ, zero, suc, Bool, true, false, List, [], ◌∷◌, ◌++◌, Result, Ok, Err}
use Rattle.pram_tokens.specs.Scanning.{Cut}
use Rattle.pram_tokens.specs.declared.token.Location.{Location}
use Rattle.pram_tokens.specs.declared.token.Mark.TheVariants as mark
use Rattle.pram_tokens.specs.declared.token.Opening.{Opening}
use Rattle.pram_tokens.specs.declared.token.Opening.TheVariants as opening
use Rattle.pram_tokens.specs.declared.token.Token.{Token}
use Rattle.pram_tokens.specs.declared.token.Token.TheVariants as token

-- what a token does to blocks
pub data Turn : Type 0 where
  Opens : Turn
  Closes : Turn
  Keeps : Turn

abbrev pub turn_of : Opening → Turn
turn_of opening.Print = Keeps
turn_of _ = Opens

abbrev pub turn : Token → Turn
turn (token.Opening o place) = turn_of o
turn (token.Mark mark.End) = Closes
turn _ = Keeps

-- whether a block ends with one of the tokens from here on, if so many blocks within it are open here
abbrev pub ends_by : Turn → (rest : ℕ → Bool) → (within : ℕ) → Bool
ends_by Opens rest n = rest (suc n)
ends_by Closes rest zero = true
ends_by Closes rest (suc n) = rest n
ends_by Keeps rest n = rest n

abbrev pub ends_among : List Token → (within : ℕ) → Bool
ends_among [] n = false
ends_among (t ∷ ts) n = ends_by (turn t) (ends_among ts) n

-- a block of that kind begins at that offset, and none of the tokens behind is its `end`
pub record IsOpenBlock (ts : List Token) (o : Opening) (begins : ℕ) : Type 0 where
  pub front : List Token
  pub place : Location
  pub rest : List Token
  pub whole : ts ≡ front ++ token.Opening o place ∷ rest
  pub there : place.offset ≡ begins
  pub no_end : ends_among rest 0 ≡ false

-- of a text that is cut into tokens
abbrev pub IsOpenIn : Result Cut ℕ → Opening → ℕ → Type 0
IsOpenIn (Ok c) o begins = IsOpenBlock c.tokens o begins
IsOpenIn (Err bad) o begins = ⊥
