-- How kinds of tokens are told.
use Rattle.std.specs.Prelude.{ℕ, zero, suc, List, [], ◌∷◌, ◌++◌, codes, length}
use Rattle.pram_printer.specs.Spelling.{token_text}
use Rattle.help.specs.declared.choice.Choice.{Choice}
use Rattle.help.specs.declared.choice.Choice.TheVariants as choice
use Rattle.help.specs.Kinds.{fixed_token}

abbrev pub choice_text : Choice → List ℕ
choice_text choice.Name = codes "a name"
choice_text choice.Rule = codes "one of erew, crew, common, priority, sum"
choice_text choice.Number = codes "a number"
choice_text (choice.Fixed f) = codes "\"" ++ (token_text (fixed_token f) ++ codes "\"")

-- what stands behind a kind that so many others follow
abbrev pub gap : ℕ → List ℕ
gap zero = []
gap (suc zero) = codes " or "
gap (suc (suc n)) = codes ", "

abbrev pub among : Choice → ℕ → List ℕ
among k others = choice_text k ++ gap others

-- one behind the other
abbrev pub listed : List Choice → List ℕ
listed [] = []
listed (k ∷ ks) = among k (length ks) ++ listed ks

-- as a sentence goes on with them
abbrev pub choices_text : List Choice → List ℕ
choices_text [] = codes "nothing more"
choices_text (k ∷ ks) = listed (k ∷ ks)
