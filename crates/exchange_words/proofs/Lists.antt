-- What the accesses of instructions take: it adds up, and a run that is over makes none.
use Rattle.std.proofs.Common.{◌≡◌, ℕ, zero, suc, ◌+◌, ◌-◌, ◌≤◌, refl, ap, arith, ⊎_elim}
use Rattle.std.proofs.lemmas.Bool.{cases_lt}
use Rattle.superstep_instructions.specs.Code.{SuperstepCode}
use Rattle.superstep_machine.specs.Run.{Way, On, Ending, Past, Refused, Lost}
use Rattle.flat_machine.specs.ByExchanges.{State}
use Rattle.flat_machine.specs.ByInstructions.{step, steps, everywhere}
use Rattle.flat_machine.proofs.Stepping.{IsPast, past_is_not_on, step_stays}
use Rattle.exchange_words.specs.Accesses.{words_here, words_within}

module _ (code : SuperstepCode) (bound p : ℕ) where
  none_here : (s : State) → (s.way ≡ On → ⊥) → words_here code p s s.way ≡ 0
  none_here s h = go s.way refl
    where
      go : (way : Way) → s.way ≡ way → words_here code p s way ≡ 0
      go On e = absurd (h e)
      go (Ending ended) e = refl
      go (Past key ended) e = refl
      go (Refused mark) e = refl
      go Lost e = refl

  none_taken : (n : ℕ) (s : State) → (s.way ≡ On → ⊥) → words_within code bound p n s ≡ 0
  none_taken zero s h = refl
  none_taken (suc n) s h =
      let a = none_here s h in
      let b = none_taken n s h in
      let c : words_within code bound p n (step code bound everywhere s) ≡ words_within code bound p n s =
      ap (words_within code bound p n) (step_stays code bound everywhere s h) in
      omega (arith, a, b, c)

  pub taken_more : (m n k : ℕ) → m + n ≡ k → (s : State) →
      words_within code bound p k s ≡ words_within code bound p m s + words_within code bound p n (steps code bound everywhere m s)
  taken_more zero n k e s =
      let a : words_within code bound p k s ≡ words_within code bound p n s =
      ap (λ j. words_within code bound p j s) (let h : k ≡ n = omega (arith, e) in h) in
      omega (arith, a)
  taken_more (suc m) n zero e s = absurd (omega (arith, e))
  taken_more (suc m) n (suc k) e s =
      let a = taken_more m n k (omega (arith, e)) (step code bound everywhere s) in omega (arith, a)

  longer : (m n : ℕ) (s : State) → m ≤ n → IsPast (steps code bound everywhere m s).way →
      words_within code bound p n s ≡ words_within code bound p m s
  longer m n s l h =
      let a = taken_more m (n - m) n (omega (arith, l)) s in
      let b = none_taken (n - m) (steps code bound everywhere m s) (past_is_not_on (steps code bound everywhere m s).way h) in
      omega (arith, a, b)

  -- a run that is over has made all of its accesses
  pub all_taken : (m n : ℕ) (s : State) → IsPast (steps code bound everywhere m s).way → IsPast (steps code bound everywhere n s).way →
      words_within code bound p m s ≡ words_within code bound p n s
  all_taken m n s h k =
      ⊎_elim (λ l. let e = longer m n s (omega (arith, l)) h in omega (arith, e)) (λ l. longer n m s l k) (cases_lt m n)
