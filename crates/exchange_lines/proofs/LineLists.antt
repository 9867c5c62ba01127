-- Lists of lines, by steps that add up.
use Rattle.std.proofs.Common.{◌≡◌, ℕ, zero, suc, ◌+◌, ◌-◌, ◌≤◌, [], ◌++◌, append_assoc, refl, sym, ap, ◌∙◌, arith, ⊎_elim}
use Rattle.std.proofs.lemmas.Bool.{cases_lt}
use Rattle.std.proofs.lemmas.List.{append-nil}
use Rattle.superstep_instructions.specs.Code.{SuperstepCode}
use Rattle.superstep_machine.specs.Run.{Way, On, Ending, Past, Refused, Lost}
use Rattle.flat_machine.specs.ByExchanges.{State}
use Rattle.flat_machine.specs.ByInstructions.{step, steps, everywhere}
use Rattle.flat_machine.proofs.Stepping.{IsPast, past_is_not_on, step_stays}
use Rattle.exchange_lines.specs.Lines.{lines_here, lines_within}

module _ (code : SuperstepCode) (bound : ℕ) where
  -- a run that is over has none
  none_by : (s : State) → (s.way ≡ On → ⊥) → lines_here code bound s s.way ≡ []
  none_by s h = go s.way refl
    where
      go : (way : Way) → s.way ≡ way → lines_here code bound s way ≡ []
      go On e = absurd (h e)
      go (Ending ended) e = refl
      go (Past key ended) e = refl
      go (Refused mark) e = refl
      go Lost e = refl

  none_within : (n : ℕ) (s : State) → (s.way ≡ On → ⊥) → lines_within code bound n s ≡ []
  none_within zero s h = refl
  none_within (suc n) s h =
      ap (λ xs. xs ++ lines_within code bound n (step code bound everywhere s)) (none_by s h)
      ∙ ap (lines_within code bound n) (step_stays code bound everywhere s h) ∙ none_within n s h

  pub sum_within : (m n k : ℕ) → m + n ≡ k → (s : State) →
      lines_within code bound k s ≡ lines_within code bound m s ++ lines_within code bound n (steps code bound everywhere m s)
  sum_within zero n k e s = ap (λ j. lines_within code bound j s) (let h : k ≡ n = omega (arith, e) in h)
  sum_within (suc m) n zero e s = absurd (omega (arith, e))
  sum_within (suc m) n (suc k) e s =
      ap (λ xs. lines_here code bound s s.way ++ xs) (sum_within m n k (omega (arith, e)) (step code bound everywhere s))
      ∙ sym (append_assoc (lines_here code bound s s.way) _ _)

  longer : (m n : ℕ) (s : State) → m ≤ n → IsPast (steps code bound everywhere m s).way →
      lines_within code bound n s ≡ lines_within code bound m s
  longer m n s l h =
      sum_within m (n - m) n (omega (arith, l)) s
      ∙ ap (λ xs. lines_within code bound m s ++ xs)
      (none_within (n - m) (steps code bound everywhere m s) (past_is_not_on (steps code bound everywhere m s).way h))
      ∙ append-nil (lines_within code bound m s)

  -- a run that is over has all its lines
  pub all_told : (m n : ℕ) (s : State) → IsPast (steps code bound everywhere m s).way → IsPast (steps code bound everywhere n s).way →
      lines_within code bound m s ≡ lines_within code bound n s
  all_told m n s h k = ⊎_elim (λ l. sym (longer m n s (omega (arith, l)) h)) (λ l. longer n m s l k) (cases_lt m n)
