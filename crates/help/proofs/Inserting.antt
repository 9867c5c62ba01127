-- A token between others.
use Rattle.std.proofs.Common.{◌≡◌, ◌++◌, ◌∷◌, [], List, ℕ, drop, subst, sym, take}
use Rattle.std.proofs.lemmas.List.{take-append-drop}
use Rattle.pram_tokens.proofs.Real.{append_real, front_real}
use Rattle.pram_tokens.specs.Tokens.{AreReal, IsReal}
use Rattle.pram_tokens.specs.declared.token.Token.{Token}
use Rattle.help.proofs.Beginnings.{real_sample}
use Rattle.help.specs.Kinds.{sample}
use Rattle.help.specs.declared.choice.Choice.{Choice}

back_real : (a b : List Token) → AreReal (a ++ b) → AreReal b
back_real [] b h = h
back_real (t ∷ a) b h = back_real a b h.1

pub real_between : (ts : List Token) (at : ℕ) (k : Choice) (t : Token) → AreReal ts → t ≡ sample k →
    AreReal (take at ts ++ t ∷ drop at ts)
real_between ts at k t real is =
    let parts = subst AreReal (sym (take-append-drop at ts)) real in
    append_real (take at ts) (t ∷ drop at ts) (front_real (take at ts) (drop at ts) parts)
    (subst IsReal (sym is) (real_sample k), back_real (take at ts) (drop at ts) parts)
