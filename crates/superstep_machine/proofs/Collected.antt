-- Entries of a cell, and askers, are collected in any order.
use Rattle.std.proofs.Common.{Bool, true, false, Option, None, refl}
use Rattle.pram_model.specs.declared.rule.Rule.{Rule}
use Rattle.pram_model.specs.declared.rule.Rule.TheVariants.{Erew, Crew, Common, Priority, Sum}
use Rattle.pram_values.specs.Total.{IsMonoid}
use Rattle.write_rules.specs.declared.entry.Entry.{Entry}
use Rattle.write_rules.specs.Combining.{Carries}
use Rattle.write_rules.specs.ExclusiveLaws.{exclusive_carries}
use Rattle.write_rules.specs.CommonLaws.{common_carries}
use Rattle.write_rules.specs.PriorityLaws.{priority_carries}
use Rattle.write_rules.specs.SumLaws.{summed_carries}
use Rattle.superstep_machine.specs.Setting.{combining}
use Rattle.superstep_machine.specs.Sending.{join, several}
use Rattle.superstep_machine.proofs.KeyOrder.{together_is_monoid}

pub combining_carries : (rule : Rule) → Carries rule (combining rule)
combining_carries Erew = exclusive_carries false
combining_carries Crew = exclusive_carries true
combining_carries Common = common_carries
combining_carries Priority = priority_carries
combining_carries Sum = summed_carries

pub entries_are_monoid : (rule : Rule) → IsMonoid (Option Entry) None (join rule)
entries_are_monoid rule = let c = combining_carries rule in together_is_monoid (combining rule).join c.associative c.commutative

pub askers_are_monoid : IsMonoid (Option Bool) None several
askers_are_monoid = together_is_monoid (λ a b. true) (λ a b c. refl) (λ a b. refl)
