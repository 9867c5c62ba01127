-- Lists of exchanges: by steps that add up, and without those that are empty.
use Rattle.std.proofs.Common.{◌≡◌, ℕ, zero, suc, ◌+◌, ◌-◌, ◌≤◌, List, [], ◌∷◌, ◌++◌, append_assoc, Bool, true, false, refl, sym, ap, ◌∙◌}
use Rattle.std.proofs.Common.{arith, ⊎_elim}
use Rattle.std.specs.Prelude.{if◌then◌else◌}
use Rattle.std.proofs.lemmas.Bool.{cases_lt}
use Rattle.std.proofs.lemmas.List.{append-nil}
use Rattle.superstep_instructions.specs.Code.{SuperstepCode}
use Rattle.superstep_machine.specs.Run.{Way, On, Ending, Past, Refused, Lost}
use Rattle.flat_machine.specs.ByExchanges.{State}
use Rattle.flat_machine.specs.ByInstructions.{step, steps}
use Rattle.flat_machine.proofs.Stepping.{IsPast, past_is_not_on, step_stays}
use Rattle.flat_machine.specs.Exchanges.{Exchange, exchanges_by, exchanges_from, is_empty, but_empty}

pub but_empty_append : (xs ys : List Exchange) → but_empty (xs ++ ys) ≡ but_empty xs ++ but_empty ys
but_empty_append [] ys = refl
but_empty_append (x ∷ xs) ys = go (is_empty x) (but_empty_append xs ys)
  where
    go : (b : Bool) → but_empty (xs ++ ys) ≡ but_empty xs ++ but_empty ys →
        (if b then but_empty (xs ++ ys) else x ∷ but_empty (xs ++ ys)) ≡ (if b then but_empty xs else x ∷ but_empty xs) ++ but_empty ys
    go true h = h
    go false h = ap (λ zs. x ∷ zs) h

module _ (code : SuperstepCode) (bound : ℕ) (judges : ℕ → Bool) where
  -- a run that is over makes none
  none_by : (s : State) → (s.way ≡ On → ⊥) → exchanges_by code bound s s.way ≡ []
  none_by s h = go s.way refl
    where
      go : (way : Way) → s.way ≡ way → exchanges_by code bound s way ≡ []
      go On e = absurd (h e)
      go (Ending ended) e = refl
      go (Past key ended) e = refl
      go (Refused mark) e = refl
      go Lost e = refl

  pub none_from : (n : ℕ) (s : State) → (s.way ≡ On → ⊥) → exchanges_from code bound judges n s ≡ []
  none_from zero s h = refl
  none_from (suc n) s h =
      ap (λ xs. xs ++ exchanges_from code bound judges n (step code bound judges s)) (none_by s h)
      ∙ ap (exchanges_from code bound judges n) (step_stays code bound judges s h) ∙ none_from n s h

  pub sum_from : (m n k : ℕ) → m + n ≡ k → (s : State) →
      exchanges_from code bound judges k s ≡ exchanges_from code bound judges m s
      ++ exchanges_from code bound judges n (steps code bound judges m s)
  sum_from zero n k e s = ap (λ j. exchanges_from code bound judges j s) (let h : k ≡ n = omega (arith, e) in h)
  sum_from (suc m) n zero e s = absurd (omega (arith, e))
  sum_from (suc m) n (suc k) e s =
      ap (λ xs. exchanges_by code bound s s.way ++ xs) (sum_from m n k (omega (arith, e)) (step code bound judges s))
      ∙ sym (append_assoc (exchanges_by code bound s s.way) _ _)

  longer : (m n : ℕ) (s : State) → m ≤ n → IsPast (steps code bound judges m s).way →
      exchanges_from code bound judges n s ≡ exchanges_from code bound judges m s
  longer m n s l h =
      sum_from m (n - m) n (omega (arith, l)) s
      ∙ ap (λ xs. exchanges_from code bound judges m s ++ xs)
      (none_from (n - m) (steps code bound judges m s) (past_is_not_on (steps code bound judges m s).way h))
      ∙ append-nil (exchanges_from code bound judges m s)

  -- a run that is over has made all of its exchanges
  pub all_made : (m n : ℕ) (s : State) → IsPast (steps code bound judges m s).way → IsPast (steps code bound judges n s).way →
      exchanges_from code bound judges m s ≡ exchanges_from code bound judges n s
  all_made m n s h k = ⊎_elim (λ l. sym (longer m n s (omega (arith, l)) h)) (λ l. longer n m s l k) (cases_lt m n)
