-- What a run under a stricter rule tells.
use Rattle.std.proofs.Common.{◌≡◌, ◌∙◌, ◌⊎◌, inl, inr, ◌<◌, ℕ, suc, ℤ, pos, true, false, List, [], ◌∷◌, FitsSigned, ap, arith}
use Rattle.std.proofs.Common.{length, refl, rules, slice_index_or, subst, sym, w64}
use Rattle.std.specs.Prelude.{Option, Some, None}
use Rattle.pram_model.specs.declared.rule.Rule.{Rule}
use Rattle.pram_model.specs.declared.rule.Rule.TheVariants.{Erew, Crew, Common, Priority, Sum}
use Rattle.pram_values.specs.declared.kind.Kind.{Kind}
use Rattle.pram_values.specs.declared.kind.Kind.TheVariants.{ReadConflict, WriteConflict}
use Rattle.pram_check.specs.Bounded.{IsBounded}
use Rattle.pram_check.specs.Checked.{Checked}
use Rattle.pram_check.specs.OtherRule.{under}
use Rattle.write_rules.specs.Verdict.{Verdict, Ended, Faulted, GoesOn}
use Rattle.pram_meaning.specs.Outcome.{IsOutcome}
use Rattle.pram_meaning.specs.Values.{AreValues, IsValue}
use Rattle.pram_meaning.proofs.OneOutcome.{one_outcome}
use Rattle.rule_laws.specs.Order.{IsFreeOf, IsKept, IsWithin, SuitsSum, from_crew, from_erew, itself, to_priority}
use Rattle.rule_laws.proofs.Outcomes.{common_is_priority, crew_is_concurrent, erew_is_every_rule}
use Rattle.comparing.specs.FirstEnd.{or_end}
use Rattle.comparing.specs.RulesFound.{IsFound}
use Rattle.comparing.specs.Judged.{IsFoundUnder}
use Rattle.comparing.specs.RulesTold.{IsKnown, ahead, is_conflict, is_meeting}
use Rattle.comparing.specs.declared.finding.Finding.{Finding}
use Rattle.comparing.specs.declared.finding.Finding.TheVariants as finding

-- ---- an input

is_value : (z : ℤ) → FitsSigned w64 z → IsValue z
is_value z fits = record { least = search rules; most = search rules }

pub are_values : (xs : List ℤ) → ((i : ℕ) → i < length xs → FitsSigned w64 (slice_index_or xs i (pos 0))) → AreValues xs
are_values [] fits = tt
are_values (x ∷ xs) fits = (is_value x (fits 0 (omega arith)), are_values xs (λ i l. fits (suc i) (omega (arith, l))))

-- ---- the order of the rules

-- an outcome that is no conflict is that under a weaker rule
kept_by : (s r : Rule) → IsWithin s r → (p : Checked) (input : List ℤ) (n : ℕ) (v : Verdict) → SuitsSum r p input →
    IsFreeOf ReadConflict v → IsFreeOf WriteConflict v → IsKept s r p input n v
kept_by s r itself p input n v suits reads writes = λ outcome. outcome
kept_by s r from_erew p input n v suits reads writes = erew_is_every_rule r p input n v suits reads writes
kept_by s r (from_crew shared) p input n v suits reads writes = crew_is_concurrent r shared p input n v suits writes
kept_by s r to_priority p input n v suits reads writes = common_is_priority p input n v writes

-- what is known of sum is found under a rule that sum is, or is weaker than
pub behind_ahead : (declared : Rule) → IsWithin (ahead declared) Sum
behind_ahead Erew = from_crew refl
behind_ahead Crew = from_crew refl
behind_ahead Common = from_crew refl
behind_ahead Priority = from_crew refl
behind_ahead Sum = itself

-- no rule but sum is gone through before common
pub crew_ahead : (r : Rule) → (r ≡ Erew) ⊎ ((r ≡ Crew) ⊎ ((r ≡ Common) ⊎ (r ≡ Priority))) → ahead r ≡ Crew
crew_ahead Erew is = refl
crew_ahead Crew is = refl
crew_ahead Common is = refl
crew_ahead Priority is = refl
crew_ahead Sum (inl e) = absurd (cc e)
crew_ahead Sum (inr (inl e)) = absurd (cc e)
crew_ahead Sum (inr (inr (inl e))) = absurd (cc e)
crew_ahead Sum (inr (inr (inr e))) = absurd (cc e)

-- ---- what is known

other_kind : (k l : Kind) → is_meeting l ≡ true → is_meeting k ≡ false → k ≡ l → ⊥
other_kind k l meets free e = let t : is_meeting k ≡ true = ap is_meeting e ∙ meets in absurd (cc (t, free))

-- a run of which no conflict is found has none
free_of : (k : Kind) → is_meeting k ≡ true → (first : Option (List ℤ × List ℤ)) (v : Verdict) (x : Finding) → is_conflict x ≡ false →
    IsFound first v x → IsFreeOf k v
free_of k meets first (Ended output memory) x free is = tt
free_of k meets first (GoesOn output) x free is = tt
free_of k meets first (Faulted fault output) (finding.Faulted told) free is =
    other_kind fault.kind k meets (subst (λ f. is_meeting f.kind ≡ false) is free)
free_of k meets first (Faulted fault output) finding.Same free is = absurd is
free_of k meets first (Faulted fault output) finding.Other free is = absurd is
free_of k meets first (Faulted fault output) finding.GoesOn free is = absurd is

pub told : (r : Rule) (p : Checked) (input : List ℤ) (n : ℕ) (first : Option (List ℤ × List ℤ)) (x : Finding) → IsBounded p →
    AreValues input → is_conflict x ≡ false → IsKnown r p input n first x → IsFoundUnder r p input n first x first
told r p input n first x bounded values free known =
    let s = known.0 in
    let within = known.1 in
    let is = known.2 in (
      is.0,
      kept_by s r within p input n is.0 (λ sum. (bounded, values)) (free_of ReadConflict refl first is.0 x free is.2.found)
          (free_of WriteConflict refl first is.0 x free is.2.found) is.1,
      is.2,
    )

-- the first end has the run that was judged in it
once_more : (f : Option (List ℤ × List ℤ)) (v : Verdict) → or_end f v ≡ or_end (or_end f v) v
once_more (Some e) v = refl
once_more None (Ended output memory) = refl
once_more None (Faulted fault output) = refl
once_more None (GoesOn output) = refl

-- what was found of a run is known
pub settled : (r : Rule) (p : Checked) (input : List ℤ) (n : ℕ) (f g : Option (List ℤ × List ℤ)) (x : Finding) →
    IsFoundUnder r p input n f x g → IsFoundUnder r p input n g x g
settled r p input n f g x is = (
  is.0,
  is.1,
  record { first = subst (λ h. h ≡ or_end h is.0) (sym is.2.first) (once_more f is.0); found = is.2.found },
)

kept_first : (f : Option (List ℤ × List ℤ)) (v w : Verdict) → f ≡ or_end f v → or_end f w ≡ or_end (or_end f w) v
kept_first (Some e) v w is = refl
kept_first None (Ended output memory) w is = absurd (cc is)
kept_first None (Faulted fault output) (Ended out mem) is = refl
kept_first None (Faulted fault output) (Faulted other out) is = refl
kept_first None (Faulted fault output) (GoesOn out) is = refl
kept_first None (GoesOn output) (Ended out mem) is = refl
kept_first None (GoesOn output) (Faulted other out) is = refl
kept_first None (GoesOn output) (GoesOn out) is = refl

kept_found : (f : Option (List ℤ × List ℤ)) (v w : Verdict) (x : Finding) → f ≡ or_end f v → IsFound f v x → IsFound (or_end f w) v x
kept_found (Some e) v w x is found = found
kept_found None (Ended output memory) w x is found = absurd (cc is)
kept_found None (Faulted fault output) w (finding.Faulted told) is found = found
kept_found None (Faulted fault output) w finding.Same is found = found
kept_found None (Faulted fault output) w finding.Other is found = found
kept_found None (Faulted fault output) w finding.GoesOn is found = found
kept_found None (GoesOn output) w (finding.Faulted told) is found = found
kept_found None (GoesOn output) w finding.Same is found = found
kept_found None (GoesOn output) w finding.Other is found = found
kept_found None (GoesOn output) w finding.GoesOn is found = found

-- what is known stays known behind one run more
pub still : (r q : Rule) (p s : Checked) (input : List ℤ) (n : ℕ) (f g : Option (List ℤ × List ℤ)) (x y : Finding) →
    IsFoundUnder r p input n f x f → IsFoundUnder q s input n f y g → IsFoundUnder r p input n g x g
still r q p s input n f g x y is more = (
  is.0,
  is.1,
  record {
    first = subst (λ h. h ≡ or_end h is.0) (sym more.2.first) (kept_first f is.0 more.0 is.2.first);
    found = subst (λ h. IsFound h is.0 x) (sym more.2.first) (kept_found f is.0 more.0 x is.2.first is.2.found);
  },
)

-- ---- ends

-- a verdict that is an end
abbrev pub IsEnd : Verdict → Type 0
IsEnd (Ended output memory) = Unit {0}
IsEnd (Faulted fault output) = ⊥
IsEnd (GoesOn output) = ⊥

free_end : (k : Kind) (v : Verdict) → IsEnd v → IsFreeOf k v
free_end k (Ended output memory) end = tt
free_end k (Faulted fault output) end = absurd end
free_end k (GoesOn output) end = absurd end

-- of some verdicts, by rules: an end under a rule is that under each weaker one
abbrev pub AreEndsKept : (Rule → Verdict) → Type 0
AreEndsKept v = (s r : Rule) → IsWithin s r → IsEnd (v s) → v r ≡ v s

pub ends_kept : (p : Checked) (input : List ℤ) (n : ℕ) → IsBounded p → AreValues input → (v : Rule → Verdict) →
    ((r : Rule) → IsOutcome (under r p) input n (v r)) → AreEndsKept v
ends_kept p input n bounded values v outcomes s r within end =
    let one = one_outcome (under r p) input n in
    one.alone (v r) (outcomes r)
    ∙ sym (one.alone (v s)
    (kept_by s r within p input n (v s) (λ sum. (bounded, values)) (free_end ReadConflict (v s) end) (free_end WriteConflict (v s) end)
    (outcomes s)))
