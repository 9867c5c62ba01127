-- One program under each of the five rules, beside the one that it declares, or else the first under which it ends.
use Rattle.std.specs.Prelude.{◌≡◌, ℕ, Bool, ℤ, List, [], ◌∷◌, Option, map}
use Rattle.pram_model.specs.Names.{same_text}
use Rattle.pram_model.specs.Rules.{rule_word}
use Rattle.pram_model.specs.declared.rule.Rule.{Rule}
use Rattle.pram_model.specs.declared.rule.Rule.TheVariants.{Erew, Crew, Common, Priority, Sum}
use Rattle.pram_check.specs.Checked.{Checked}
use Rattle.pram_check.specs.OtherRule.{under}
use Rattle.write_rules.specs.Verdict.{Verdict}
use Rattle.pram_meaning.specs.Outcome.{IsOutcome}
use Rattle.comparing.specs.declared.rules.UnderRules.{UnderRules}
use Rattle.comparing.specs.declared.finding.Finding.{Finding}
use Rattle.comparing.specs.RulesFound.{IsFound, first_end}

-- the rules, in the order in which the first end is sought
abbrev pub rules : List Rule
rules = Erew ∷ Crew ∷ Common ∷ Priority ∷ Sum ∷ []

-- what is found under a rule
abbrev pub finding_of : UnderRules → Rule → Finding
finding_of c Erew = c.erew
finding_of c Crew = c.crew
finding_of c Common = c.common
finding_of c Priority = c.priority
finding_of c Sum = c.sum

-- whether the program declares that rule
abbrev pub declares : UnderRules → Rule → Bool
declares c r = same_text (rule_word r) (rule_word c.declared)

-- the end beside which all are told: that under the declared rule, or else the first
abbrev pub end_beside : Rule → (Rule → Verdict) → Option (List ℤ × List ℤ)
end_beside declared verdict = first_end (verdict declared ∷ map verdict rules)

-- The findings are those of the program's outcomes under the five rules, on the input within n statements.
pub record IsComparison (p : Checked) (input : List ℤ) (n : ℕ) (c : UnderRules) : Type 0 where
  pub verdict : Rule → Verdict
  pub outcome : (r : Rule) → IsOutcome (under r p) input n (verdict r)
  pub declared : c.declared ≡ p.rule
  pub found : (r : Rule) → IsFound (end_beside p.rule verdict) (verdict r) (finding_of c r)

-- Two comparisons of one program on one input, within one bound, find the same under each rule.
abbrev pub HasOneComparisonAtMost : Type 0
HasOneComparisonAtMost =
    (p : Checked) (input : List ℤ) (n : ℕ) (c d : UnderRules) → IsComparison p input n c → IsComparison p input n d → (r : Rule) →
    finding_of c r ≡ finding_of d r
