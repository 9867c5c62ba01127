-- The words of the rules of concurrent access.
use Rattle.std.specs.Prelude.{ℕ, List, [], ◌∷◌, codes}
use Rattle.pram_model.specs.declared.rule.Rule.{Rule}
use Rattle.pram_model.specs.declared.rule.Rule.TheVariants as rule

abbrev pub rule_word : Rule → List ℕ
rule_word rule.Erew = codes "erew"
rule_word rule.Crew = codes "crew"
rule_word rule.Common = codes "common"
rule_word rule.Priority = codes "priority"
rule_word rule.Sum = codes "sum"

-- the five words
abbrev pub rule_words : List (List ℕ)
rule_words = codes "erew" ∷ codes "crew" ∷ codes "common" ∷ codes "priority" ∷ codes "sum" ∷ []
