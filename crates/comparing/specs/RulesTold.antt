-- What is found of a run that isn't made, since a run under a stricter rule tells it.
use Rattle.std.specs.Prelude.{Bool, true, false, ℕ, ℤ, List, Option}
use Rattle.pram_model.specs.declared.rule.Rule.{Rule}
use Rattle.pram_model.specs.declared.rule.Rule.TheVariants.{Erew, Crew, Common, Priority, Sum}
use Rattle.pram_values.specs.declared.kind.Kind.{Kind}
use Rattle.pram_values.specs.declared.kind.Kind.TheVariants as kind
use Rattle.pram_check.specs.Checked.{Checked}
use Rattle.rule_laws.specs.Order.{IsWithin}
use Rattle.comparing.specs.Judged.{IsFoundUnder}
use Rattle.comparing.specs.declared.finding.Finding.{Finding}
use Rattle.comparing.specs.declared.finding.Finding.TheVariants as finding

-- whether such a fault is told of processors that met at a cell
abbrev pub is_meeting : Kind → Bool
is_meeting kind.Overflow = false
is_meeting kind.DivideByZero = false
is_meeting kind.OutOfRange = false
is_meeting kind.TooWide = false
is_meeting kind.ReadConflict = true
is_meeting kind.WriteConflict = true

abbrev pub is_conflict : Finding → Bool
is_conflict finding.Same = false
is_conflict finding.Other = false
is_conflict (finding.Faulted fault) = is_meeting fault.kind
is_conflict finding.GoesOn = false

-- what is known of a rule: it was found of a run under this rule or a stricter one, and the first end is no later one's
abbrev pub IsKnown : Rule → Checked → List ℤ → ℕ → (first : Option (List ℤ × List ℤ)) → Finding → Type 0
IsKnown r p input n first x = (s : Rule) × IsWithin s r × IsFoundUnder s p input n first x first

-- the rule that is gone through before common: sum, where the program declares it; else crew stands there once more
abbrev pub ahead : Rule → Rule
ahead Erew = Crew
ahead Crew = Crew
ahead Common = Crew
ahead Priority = Crew
ahead Sum = Sum
