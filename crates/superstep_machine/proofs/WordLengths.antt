-- How many words asks and values take.
use Rattle.std.proofs.Common.{◌≡◌, ℤ, suc, List, [], ◌∷◌, ap, length, refl}
use Rattle.superstep_machine.specs.Words.{CellAsk, ask_words, values_words}

-- a word for each ask
pub length-ask_words : (xs : List CellAsk) → length (ask_words xs) ≡ length xs
length-ask_words [] = refl
length-ask_words (x ∷ xs) = ap suc (length-ask_words xs)

-- a word for each value
pub length-values_words : (zs : List ℤ) → length (values_words zs) ≡ length zs
length-values_words [] = refl
length-values_words (z ∷ zs) = ap suc (length-values_words zs)
