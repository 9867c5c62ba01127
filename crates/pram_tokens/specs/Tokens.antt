-- The tokens that a text can have: names that are names, and numbers from 0 to 9223372036854775807.
use Rattle.std.specs.Prelude.{◌^◌, ℤ, pos, ◌≤ℤ◌, ◌<ℤ◌, List, [], ◌∷◌}
use Rattle.pram_model.specs.Names.{IsName}
use Rattle.pram_tokens.specs.declared.token.Token.{Token}
use Rattle.pram_tokens.specs.declared.token.Token.TheVariants as token

-- from 0 to 9223372036854775807
pub record IsNumber (value : ℤ) : Type 0 where
  pub no_sign : pos 0 ≤ℤ value
  pub bounded : value <ℤ pos (2 ^ 63)

-- a token that a text can have
abbrev pub IsReal : Token → Type 0
IsReal (token.Name x) = IsName x.text
IsReal (token.Number n) = IsNumber n.value
IsReal _ = Unit {0}

-- tokens that a text can have
abbrev pub AreReal : List Token → Type 0
AreReal [] = Unit {0}
AreReal (t ∷ rest) = IsReal t × AreReal rest
