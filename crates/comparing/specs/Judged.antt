-- What is found of one run more, while the rules are gone through.
use Rattle.std.specs.Prelude.{◌≡◌, ℕ, ℤ, List, Option}
use Rattle.pram_model.specs.declared.rule.Rule.{Rule}
use Rattle.pram_check.specs.Checked.{Checked}
use Rattle.pram_check.specs.OtherRule.{under}
use Rattle.write_rules.specs.Verdict.{Verdict}
use Rattle.pram_meaning.specs.Outcome.{IsOutcome}
use Rattle.comparing.specs.FirstEnd.{or_end}
use Rattle.comparing.specs.RulesFound.{IsFound}
use Rattle.comparing.specs.declared.finding.Finding.{Finding}

-- one run more, with the first end before it and behind it
pub record IsJudged (before : Option (List ℤ × List ℤ)) (v : Verdict) (x : Finding) (after : Option (List ℤ × List ℤ)) : Type 0 where
  pub first : after ≡ or_end before v
  pub found : IsFound after v x

-- that run is the program's under this rule
abbrev pub IsFoundUnder : Rule → Checked → List ℤ → ℕ → (before : Option (List ℤ × List ℤ)) → Finding →
    (after : Option (List ℤ × List ℤ)) → Type 0
IsFoundUnder r p input n before x after = (v : Verdict) × IsOutcome (under r p) input n v × IsJudged before v x after
