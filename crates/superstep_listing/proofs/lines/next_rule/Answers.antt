use Rattle.superstep_listing.specs.Listing.{rule_line}
use Rattle.superstep_listing.proofs.Cuts.{cut_as, not_cut}
use Rattle.superstep_listing.proofs.Plain.{plain_rule}
use Rattle.superstep_listing.proofs.lines.next_rule.Goals as goal

pub returns-in_default : goal.returns-in_default
returns-in_default c = record { value = λ r more e. not_cut 10 _ (rule_line r) more c.in_default.ensures.parts e }

pub returns-in_default-rule_of : goal.returns-in_default-rule_of
returns-in_default-rule_of c =
    record {
      value = λ r more e. c.in_default-rule_of.ensures.value r (cut_as (rule_line r) more c.in-Some.ensures.parts (plain_rule r)
          e).0;
    }
