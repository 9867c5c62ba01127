-- Parts of a list of real tokens.
use Rattle.std.proofs.Common.{List, [], ◌∷◌, ◌++◌}
use Rattle.pram_tokens.specs.declared.token.Token.{Token}
use Rattle.pram_tokens.specs.Tokens.{AreReal}

pub append_real : (a b : List Token) → AreReal a → AreReal b → AreReal (a ++ b)
append_real [] b h g = g
append_real (t ∷ a) b h g = (h.0, append_real a b h.1 g)

pub front_real : (a b : List Token) → AreReal (a ++ b) → AreReal a
front_real [] b h = tt
front_real (t ∷ a) b h = (h.0, front_real a b h.1)
