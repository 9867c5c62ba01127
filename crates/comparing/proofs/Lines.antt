-- The text of a comparison, line by line.
use Rattle.std.proofs.Common.{◌≡◌, ◌∙◌, ◌<◌, ◌+◌, ◌++◌, ◌∷◌, [], List, ℕ, ap, append_assoc, codes, drop, get_or, length, sym}
use Rattle.std.proofs.lemmas.List.{drop_more}
use Rattle.pram_model.specs.declared.rule.Rule.{Rule}
use Rattle.comparing.specs.RulesText.{rule_line, rule_lines}
use Rattle.comparing.specs.declared.rules.UnderRules.{UnderRules}

-- the line of the rule at i, and those behind it
pub lines_at : (c : UnderRules) (rs : List Rule) (i : ℕ) (d : Rule) → i < length rs →
    rule_lines c (drop i rs) ≡ rule_line c (get_or rs i d) ++ rule_lines c (drop (i + 1) rs)
lines_at c rs i d below = ap (rule_lines c) (drop_more rs i d below)

-- a line: the rule's word, and what is found
pub line_split : (spelt word found : List ℕ) → word ≡ spelt → (spelt ++ (codes " " ++ found)) ++ 10 ∷ [] ≡ (word
    ++ codes " ") ++ (found ++ 10 ∷ [])
line_split spelt word found is =
    ap (λ l. (l ++ (codes " " ++ found)) ++ 10 ∷ []) (sym is) ∙ append_assoc word (codes " " ++ found) (10 ∷ [])
    ∙ sym (append_assoc word (codes " ") (found ++ 10 ∷ []))
