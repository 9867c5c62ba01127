-- What JSON says of a program under each of the five rules.
use Rattle.std.specs.Prelude.{ℕ, Bool, true, List, [], ◌∷◌, ◌++◌, codes, map}
use Rattle.serde_json.specs.Data.{Data}
use Rattle.json_texts.specs.Facts.{Field, flag, list, object_of, word}
use Rattle.pram_model.specs.Layout.{SharedEntry}
use Rattle.pram_model.specs.Rules.{rule_word}
use Rattle.pram_model.specs.declared.rule.Rule.{Rule}
use Rattle.comparing.specs.Compared.{declares, finding_of, rules}
use Rattle.comparing.specs.declared.rules.UnderRules.{UnderRules}
use Rattle.comparing.specs.declared.finding.Finding.{Finding}
use Rattle.comparing.specs.declared.finding.Finding.TheVariants as finding
use Rattle.json_texts.specs.OutcomeFacts.{fault_fields}

-- an end, which is `same` or `other`
abbrev pub end_fields : List ℕ → List Field
end_fields end = (codes "outcome", word (codes "ended")) ∷ (codes "end", word end) ∷ []

-- how the program comes out, and whether as under the declared rule, or else as under the first under which it ends
abbrev pub finding_fields : List SharedEntry → Finding → List Field
finding_fields layout finding.Same = end_fields (codes "same")
finding_fields layout finding.Other = end_fields (codes "other")
finding_fields layout (finding.Faulted fault) = (codes "outcome", word (codes "fault")) ∷ fault_fields layout fault
finding_fields layout finding.GoesOn = (codes "outcome", word (codes "goes on")) ∷ []

-- of the rule that the program declares, where it ends under that, so all others are told beside it
abbrev pub declared_fields : Bool → Finding → List Field
declared_fields true finding.Same = (codes "declared", flag true) ∷ []
declared_fields _ _ = []

abbrev pub rule_facts : UnderRules → Rule → Data
rule_facts c r =
    object_of ((codes "rule", word (rule_word r))
    ∷ (finding_fields c.layout (finding_of c r) ++ declared_fields (declares c r) (finding_of c r)))

-- an object for each rule, in the order in which they are compared
abbrev pub comparison_facts : UnderRules → Data
comparison_facts c = object_of ((codes "rules", list (map (rule_facts c) rules)) ∷ [])
