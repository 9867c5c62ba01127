-- Programs that tell rules apart.
use Rattle.std.proofs.Common.{◌≡◌, ◌⊎◌, inl, inr, ◌^◌, ℤ, pos, List, [], ◌∷◌, ap, arith, refl}
use Rattle.std.proofs.lemmas.Int.{ints}
use Rattle.pram_model.specs.declared.rule.Rule.{Rule}
use Rattle.pram_model.specs.declared.rule.Rule.TheVariants.{Common, Crew, Erew, Priority, Sum}
use Rattle.pram_check.specs.Checked.{Checked}
use Rattle.pram_check.specs.OtherRule.{under}
use Rattle.pram_check.proofs.BoundedPrograms.{bounded}
use Rattle.write_rules.specs.Verdict.{Ended, Faulted, GoesOn, Verdict}
use Rattle.pram_meaning.specs.Computed.{body_done, verdict_at}
use Rattle.pram_meaning.specs.Values.{AreValues, IsValue}
use Rattle.pram_meaning.proofs.OneOutcome.{outcome_is_computed}
use Rattle.pram_meaning.proofs.SoundValues.{zero_is}
use Rattle.rule_laws.specs.Order.{AreToldApart, IsAcceptedProgram, IsWithin, OrderIsAll, OrderIsKept, SumNeedsValues}
use Rattle.rule_laws.specs.Order.{from_crew, from_erew, itself, to_priority}
use Rattle.rule_laws.proofs.Outcomes.{common_is_priority, crew_is_concurrent, erew_is_every_rule}
use Rattle.rule_laws.proofs.Samples.{all_write, all_write_is, both_read, both_read_is, each_writes, each_writes_is}

pub order_is_kept : OrderIsKept
order_is_kept strict weak itself p input n v is values reads writes = λ outcome. outcome
order_is_kept strict weak from_erew p input n v is values reads writes =
    erew_is_every_rule weak p input n v (λ sum. (bounded p is.tree is.accepted is.says, values)) reads writes
order_is_kept strict weak (from_crew shared) p input n v is values reads writes =
    crew_is_concurrent weak shared p input n v (λ sum. (bounded p is.tree is.accepted is.says, values)) writes
order_is_kept strict weak to_priority p input n v is values reads writes = common_is_priority p input n v writes

-- ---- what a program comes to by two statements

abbrev comes : Rule → Checked → ℤ → Verdict
comes rule p v = verdict_at (body_done (under rule p) (v ∷ []) 2)

-- the first cell at the end, or 9
abbrev told : Verdict → ℤ
told (Ended output []) = pos 9
told (Ended output (v ∷ memory)) = v
told (Faulted fault output) = pos 9
told (GoesOn output) = pos 9

-- it ends with another first cell under the second rule, or not at all
apart : (strict weak : Rule) (p : Checked) → IsAcceptedProgram p → (v z : ℤ) → Ended [] (z ∷ []) ≡ comes strict p v →
    (z ≡ told (comes weak p v) → ⊥) → AreToldApart strict weak (v ∷ [])
apart strict weak p is v z e other = record {
  program = p;
  is_accepted = is;
  bound = 2;
  output = [];
  memory = z ∷ [];
  first = (outcome_is_computed (under strict p) (v ∷ []) 2 (Ended [] (z ∷ []))).1 e;
  not_second = λ outcome. other (ap told ((outcome_is_computed (under weak p) (v ∷ []) 2 (Ended [] (z ∷ []))).0 outcome));
}

one_is : IsValue (pos 1)
one_is = record { least = omega (arith, ints); most = omega (arith, ints) }

abbrev Told : Rule → Rule → Type 0
Told strict weak = IsWithin strict weak ⊎ ((input : List ℤ) × AreValues input × AreToldApart strict weak input)

-- each writes a = 1 to a
both_write : (strict weak : Rule) (z : ℤ) → Ended [] (z ∷ []) ≡ comes strict (all_write (pos 1)) (pos 1) →
    (z ≡ told (comes weak (all_write (pos 1)) (pos 1)) → ⊥) → Told strict weak
both_write strict weak z e other =
    inr (pos 1 ∷ [], (one_is, tt), apart strict weak (all_write (pos 1)) (all_write_is 1 (omega arith)) (pos 1) z e other)

-- the first cell isn't the same
zero_nine : pos 0 ≡ pos 9 → ⊥
zero_nine e = omega (arith, ints, e)

one_nine : pos 1 ≡ pos 9 → ⊥
one_nine e = omega (arith, ints, e)

two_nine : pos 2 ≡ pos 9 → ⊥
two_nine e = omega (arith, ints, e)

one_two : pos 1 ≡ pos 2 → ⊥
one_two e = omega (arith, ints, e)

two_one : pos 2 ≡ pos 1 → ⊥
two_one e = omega (arith, ints, e)

great_nine : pos (2 ^ 63) ≡ pos 9 → ⊥
great_nine e = omega (arith, ints, e)

-- ---- all pairs of rules

pub order_is_all : OrderIsAll
order_is_all Erew weak = inl from_erew
order_is_all Crew Erew = inr (pos 0 ∷ [], (zero_is, tt), apart Crew Erew both_read both_read_is (pos 0) (pos 0) refl zero_nine)
order_is_all Crew Crew = inl itself
order_is_all Crew Common = inl (from_crew refl)
order_is_all Crew Priority = inl (from_crew refl)
order_is_all Crew Sum = inl (from_crew refl)
order_is_all Common Erew = both_write Common Erew (pos 1) refl one_nine
order_is_all Common Crew = both_write Common Crew (pos 1) refl one_nine
order_is_all Common Common = inl itself
order_is_all Common Priority = inl to_priority
order_is_all Common Sum = both_write Common Sum (pos 1) refl one_two
order_is_all Priority Erew = both_write Priority Erew (pos 1) refl one_nine
order_is_all Priority Crew = both_write Priority Crew (pos 1) refl one_nine
order_is_all Priority Common =
    inr (pos 0 ∷ [], (zero_is, tt), apart Priority Common each_writes each_writes_is (pos 0) (pos 0) refl zero_nine)
order_is_all Priority Priority = inl itself
order_is_all Priority Sum = both_write Priority Sum (pos 1) refl one_two
order_is_all Sum Erew = both_write Sum Erew (pos 2) refl two_nine
order_is_all Sum Crew = both_write Sum Crew (pos 2) refl two_nine
order_is_all Sum Common = both_write Sum Common (pos 2) refl two_one
order_is_all Sum Priority = both_write Sum Priority (pos 2) refl two_one
order_is_all Sum Sum = inl itself

pub sum_needs_values : SumNeedsValues
sum_needs_values =
    (pos (2 ^ 63) ∷ [], apart Erew Sum (all_write (pos 0)) (all_write_is 0 (omega arith)) (pos (2 ^ 63)) (pos (2 ^ 63)) refl great_nine)
