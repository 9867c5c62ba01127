-- How a comparison is written: a line for each rule.
use Rattle.std.specs.Prelude.{ℕ, Bool, if◌then◌else◌, List, [], ◌∷◌, ◌++◌, codes}
use Rattle.pram_model.specs.Layout.{SharedEntry}
use Rattle.pram_model.specs.Rules.{rule_word}
use Rattle.pram_model.specs.declared.rule.Rule.{Rule}
use Rattle.program_texts.specs.Shown.{fault_text, line}
use Rattle.comparing.specs.Compared.{declares, finding_of, rules}
use Rattle.comparing.specs.declared.rules.UnderRules.{UnderRules}
use Rattle.comparing.specs.declared.finding.Finding.{Finding}
use Rattle.comparing.specs.declared.finding.Finding.TheVariants as finding

abbrev pub finding_text : List SharedEntry → Finding → List ℕ
finding_text layout finding.Same = codes "ended same"
finding_text layout finding.Other = codes "ended other"
finding_text layout (finding.Faulted fault) = fault_text layout fault
finding_text layout finding.GoesOn = codes "goes on"

-- what is found under the declared rule: where it ends, that is told
abbrev pub declared_text : List SharedEntry → Finding → List ℕ
declared_text layout finding.Same = codes "ended same (declared)"
declared_text layout finding.Other = finding_text layout finding.Other
declared_text layout (finding.Faulted fault) = finding_text layout (finding.Faulted fault)
declared_text layout finding.GoesOn = finding_text layout finding.GoesOn

-- what is found under a rule, which is the declared one or not
abbrev pub told : Bool → List SharedEntry → Finding → List ℕ
told declared layout x = if declared then declared_text layout x else finding_text layout x

-- `erew fault read-conflict a[1] line 4`
abbrev pub rule_line : UnderRules → Rule → List ℕ
rule_line c r = line (rule_word r ++ (codes " " ++ told (declares c r) c.layout (finding_of c r)))

-- a line for each of some rules
abbrev pub rule_lines : UnderRules → List Rule → List ℕ
rule_lines c [] = []
rule_lines c (r ∷ rs) = rule_line c r ++ rule_lines c rs

-- what `show_comparison` writes
abbrev pub comparison_text : UnderRules → List ℕ
comparison_text c = rule_lines c rules
