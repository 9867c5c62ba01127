-- The run of the flat machine by instructions: steps add up, a run that is over stays so, and so it has one outcome.
use Rattle.std.proofs.Common.{◌≡◌, ℕ, zero, suc, ◌+◌, ◌-◌, ◌≤◌, List, Bool, true, false, Option, Some, None, ℤ, refl, sym, ap, ◌∙◌, arith}
use Rattle.std.proofs.Common.{⊎_elim}
use Rattle.std.proofs.lemmas.Bool.{cases_lt}
use Rattle.write_rules.specs.Verdict.{Verdict}
use Rattle.superstep_instructions.specs.declared.instr.Instr.{Instr}
use Rattle.superstep_instructions.specs.Code.{SuperstepCode}
use Rattle.superstep_machine.specs.Run.{Way, On, Ending, Past, Refused, Lost, verdict_by}
use Rattle.superstep_machine.specs.Stretch.{advance}
use Rattle.flat_machine.specs.Flat.{Flat, after_instr}
use Rattle.flat_machine.specs.ByExchanges.{State, outcome_of, opening}
use Rattle.flat_machine.specs.ByInstructions.{stopped, going, step_by, step, steps, outcome_within}
use Rattle.pram_model.proofs.Truths.{unsome}

-- it is over with a verdict
abbrev pub IsPast : Way → Type 0
IsPast (Past key ended) = Unit {0}
IsPast _ = ⊥

pub past_is_not_on : (way : Way) → IsPast way → way ≡ On → ⊥
past_is_not_on (Past key ended) h e = cc
past_is_not_on On h e = absurd h
past_is_not_on (Ending ended) h e = absurd h
past_is_not_on (Refused mark) h e = absurd h
past_is_not_on Lost h e = absurd h

some_past : (way : Way) (output : List (ℕ × ℤ)) (memory : List ℤ) (v : Verdict) → verdict_by way output memory ≡ Some v → IsPast way
some_past (Past key ended) output memory v e = tt
some_past On output memory v e = cc
some_past (Ending ended) output memory v e = cc
some_past (Refused mark) output memory v e = cc
some_past Lost output memory v e = cc

-- an outcome means that the run is over
pub outcome_is_past : (code : SuperstepCode) (s : State) (v : Verdict) → outcome_of code s ≡ Some v → IsPast s.way
outcome_is_past code s v e = some_past s.way _ _ v e

verdict_past : (way : Way) (output : List (ℕ × ℤ)) (memory : List ℤ) → IsPast way → (v : Verdict) × (verdict_by way output memory ≡ Some v)
verdict_past (Past (Some key) ended) output memory h = (_, refl)
verdict_past (Past None true) output memory h = (_, refl)
verdict_past (Past None false) output memory h = (_, refl)
verdict_past On output memory h = absurd h
verdict_past (Ending ended) output memory h = absurd h
verdict_past (Refused mark) output memory h = absurd h
verdict_past Lost output memory h = absurd h

-- and where it is over there is one
pub past_has_outcome : (code : SuperstepCode) (s : State) → IsPast s.way → (v : Verdict) × (outcome_of code s ≡ Some v)
past_has_outcome code s h = verdict_past s.way _ _ h

-- the state after what stands at a place
abbrev pub carried_out : SuperstepCode → ℕ → (ℕ → Bool) → Option Instr → ℕ → Flat → State
carried_out code bound judges o place f =
    advance bound (λ (g : Flat). g.uniform) (after_instr code) (record { flat = f; place = place; way = Lost }) (stopped code judges) going
    o place f

module _ (code : SuperstepCode) (bound : ℕ) (judges : ℕ → Bool) where
  pub step_stays : (s : State) → (s.way ≡ On → ⊥) → step code bound judges s ≡ s
  step_stays s h = go s.way refl
    where
      go : (way : Way) → s.way ≡ way → step_by code bound judges s way ≡ s
      go On e = absurd (h e)
      go (Ending ended) e = refl
      go (Past key ended) e = refl
      go (Refused mark) e = refl
      go Lost e = refl

  -- a run that is over stays so
  pub over_stays : (n : ℕ) (s : State) → (s.way ≡ On → ⊥) → steps code bound judges n s ≡ s
  over_stays zero s h = refl
  over_stays (suc n) s h = ap (steps code bound judges n) (step_stays s h) ∙ over_stays n s h

  steps_sum : (m n k : ℕ) → m + n ≡ k → (s : State) → steps code bound judges k s ≡ steps code bound judges n (steps code bound judges m s)
  steps_sum zero n k e s = ap (λ j. steps code bound judges j s) (let h : k ≡ n = omega (arith, e) in h)
  steps_sum (suc m) n zero e s = absurd (omega (arith, e))
  steps_sum (suc m) n (suc k) e s = steps_sum m n k (omega (arith, e)) (step code bound judges s)

  pub steps_more : (m n : ℕ) (s : State) → steps code bound judges (m + n) s ≡ steps code bound judges n (steps code bound judges m s)
  steps_more m n s = steps_sum m n (m + n) refl s

  -- an outcome stays, with more instructions
  pub outcome_stays : (input : List ℤ) (m n : ℕ) (v : Verdict) → m ≤ n →
      outcome_within code bound judges m input ≡ Some v → outcome_within code bound judges n input ≡ Some v
  outcome_stays input m n v l e =
      let s = steps code bound judges m (opening input) in
      let h = steps_sum m (n - m) n (omega (arith, l)) (opening input)
      ∙ over_stays (n - m) s (past_is_not_on s.way (outcome_is_past code s v e)) in
      ap (λ (x : State). outcome_of code x) h ∙ e

pub one_end : (code : SuperstepCode) (bound : ℕ) (judges : ℕ → Bool) (input : List ℤ) (m n : ℕ) (v w : Verdict) →
    outcome_within code bound judges m input ≡ Some v → outcome_within code bound judges n input ≡ Some w → v ≡ w
one_end code bound judges input m n v w a b =
    ⊎_elim
    (λ l. unsome v w (sym (outcome_stays code bound judges input m n v (omega (arith, l)) a) ∙ b))
    (λ l. unsome v w (sym a ∙ outcome_stays code bound judges input n m w (omega (arith, l)) b))
    (cases_lt m n)
