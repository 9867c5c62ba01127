-- A flat run of well-formed code is over within (bound + 1) * N instructions, N those of the code.
use Rattle.std.proofs.Common.{◌≡◌, ℕ, zero, suc, ◌+◌, ◌-◌, ◌*◌, ◌<◌, ◌≤◌, List, length, Bool, true, false, eqb, Option, Some, None, ℤ, refl}
use Rattle.std.proofs.Common.{sym, ap, ◌∙◌, subst, arith, ⊎_elim, ◌⊎◌, inl, inr}
use Rattle.std.specs.Prelude.{if◌then◌else◌, slice_get}
use Rattle.std.proofs.lemmas.Bool.{cases_lt}
use Rattle.pram_values.specs.Truth.{is_nonzero}
use Rattle.write_rules.specs.Verdict.{Verdict}
use Rattle.superstep_instructions.specs.declared.instr.Instr.{Instr}
use Rattle.superstep_instructions.specs.declared.instr.Instr.TheVariants.{Mark, Send, Reply, Vote, Jump, JumpIfZero, Halt}
use Rattle.superstep_machine.specs.declared.key.Key.{Key}
use Rattle.superstep_instructions.specs.Code.{SuperstepCode}
use Rattle.superstep_machine.specs.Parts.{UniformPart}
use Rattle.superstep_machine.specs.Run.{Purpose, Sends, Replies, Votes, Closes, Way, On, is_held, due, unless, decided}
use Rattle.superstep_machine.specs.Stretch.{ToClose}
use Rattle.bsp_verify.specs.Control.{Leads}
use Rattle.bsp_verify.specs.Judging.{is_mark, has_target, stays_within}
use Rattle.bsp_verify.specs.WellFormed.{IsWellFormed}
use Rattle.bsp_verify.proofs.Ways.{leads_within}
use Rattle.bsp_verify.proofs.PathLemmas.{step_rises}
use Rattle.flat_machine.specs.Flat.{Flat, after_instr}
use Rattle.flat_machine.specs.ByExchanges.{State, after_exchange, opening}
use Rattle.flat_machine.specs.ByInstructions.{exchanged, closed, stopped, going, steps, outcome_within}
use Rattle.flat_machine.proofs.Stepping.{IsPast, carried_out, past_is_not_on, over_stays, past_has_outcome}
use Rattle.bsp_verify.proofs.ArrivalLemmas.{same_count, laps_times, not_equal, no_mark, laps}
use Rattle.superstep_machine.proofs.Numbers.{same_number}

-- ---- exchanges

unless_on : (key : Option Key) → (unless key On ≡ On) ⊎ IsPast (unless key On)
unless_on None = inl refl
unless_on (Some key) = inr tt

decided_on : (purpose : Purpose) (u : UniformPart) (key : Option Key) → (decided purpose u key On ≡ On) ⊎ IsPast (decided purpose u key On)
decided_on Sends u key = go (is_held u.put)
  where
    go : (b : Bool) → ((if b then On else unless (due key u.count) On) ≡ On) ⊎ IsPast (if b then On else unless (due key u.count) On)
    go true = inl refl
    go false = unless_on (due key u.count)
decided_on Replies u key = unless_on (due key u.count)
decided_on (Votes d) u key = unless_on (due key u.count)
decided_on Closes u key = inl refl

abbrev exchanged_by : SuperstepCode → Purpose → ℕ → Flat → Way → State
exchanged_by code purpose place f way = record { flat = after_exchange code purpose f; place = place + 1; way = way }

-- after an exchange a run goes on, or it is over
pub exchanged_on : (code : SuperstepCode) (judges : ℕ → Bool) (purpose : Purpose) (place : ℕ) (f : Flat) →
    (exchanged code judges purpose place f ≡ going (place + 1) (after_exchange code purpose f))
    ⊎ IsPast (exchanged code judges purpose place f).way
exchanged_on code judges purpose place f = go (judges place)
  where
    go : (b : Bool) → let way = if b then decided purpose f.uniform f.key On else On in
        (exchanged_by code purpose place f way ≡ going (place + 1) (after_exchange code purpose f)) ⊎ IsPast way
    go true = ⊎_elim (λ e. inl (ap (exchanged_by code purpose place f) e)) (λ p. inr p) (decided_on purpose f.uniform f.key)
    go false = inl refl

-- ---- the measure

module _ (code : SuperstepCode) (formed : IsWellFormed code) (bound : ℕ) where
  abbrev size : ℕ
  size = length code.instructions

  -- no mark stands below
  abbrev IsFresh : ℕ → Type 0
  IsFresh place = (p : ℕ) → p < place → is_mark (slice_get code.instructions p) ≡ true → ⊥

  -- enough from anywhere
  abbrev IsEnough : ℕ → ℕ → ℕ → ℕ → Type 0
  IsEnough place left above n = ((is_mark (slice_get code.instructions place) ≡ true) × (laps size left + 1 ≤ n))
      ⊎ (laps size left + above + 1 ≤ n)

  -- Enough instructions to close from a place: what is above it, and all of them for each statement to come, and one for the mark that
  -- closes.
  -- At a mark what is above it isn't needed; where no mark stands below, the mark that closes is above.
  pub record IsFuel (place count n : ℕ) : Type 0 where
    pub left : ℕ
    pub counted : count + left ≡ bound
    pub above : ℕ
    pub up : place + above ≡ size
    pub inside : place < size
    pub enough : IsEnough place left above n ⊎ (IsFresh place × (laps size left + above ≤ n))

  module _ (n place count : ℕ) (fuel : IsFuel place count (suc n)) (i : Instr) (is : slice_get code.instructions place ≡ Some i)
      (target : has_target code place i ≡ true) (within : stays_within code place i ≡ true) where
    -- what is left at a successor of what is no mark
    left_over : is_mark (Some i) ≡ false → (to : ℕ) → Leads i place to → IsFuel to count n
    left_over plain to l = record {
      left = fuel.left;
      counted = fuel.counted;
      above = size - to;
      up = omega (arith, inside);
      inside = inside;
      enough = ⊎_elim (λ x. inl (⊎_elim (λ m. absurd (plain_here place refl m.0)) old x)) (λ x. fresh x.0 x.1 (eqb to (place + 1)) refl)
          fuel.enough;
    }
      where
        inside : to < size
        inside = leads_within code place i target within to l

        rises : (place < to) ⊎ (is_mark (slice_get code.instructions to) ≡ true)
        rises = step_rises code place i target to l

        plain_here : (p : ℕ) → place ≡ p → is_mark (slice_get code.instructions p) ≡ true → ⊥
        plain_here p e m = no_mark (slice_get code.instructions place) i is plain (ap (λ k. is_mark (slice_get code.instructions k)) e ∙ m)

        -- no mark stands below, nor here
        none_up_to : IsFresh place → (p : ℕ) → p ≤ place → is_mark (slice_get code.instructions p) ≡ true → ⊥
        none_up_to f p r m = ⊎_elim (λ b. f p b m) (λ b. plain_here p (omega (arith, r, b)) m) (cases_lt p place)

        old : laps size fuel.left + fuel.above + 1 ≤ suc n → IsEnough to fuel.left (size - to) n
        old e = let u = fuel.up in let v = fuel.inside in
            ⊎_elim (λ r. inr (omega (arith, e, r, u, inside))) (λ r. inl (r, omega (arith, e, u, v))) rises

        higher : IsFresh place → place < to
        higher f = ⊎_elim (λ r. r) (λ m. ⊎_elim (λ r. r) (λ r. absurd (none_up_to f to r m)) (cases_lt place to)) rises

        -- a jump over places leaves one more
        fresh : IsFresh place → laps size fuel.left + fuel.above ≤ suc n → (b : Bool) → eqb to (place + 1) ≡ b →
            IsEnough to fuel.left (size - to) n ⊎ (IsFresh to × (laps size fuel.left + (size - to) ≤ n))
        fresh f e true h =
            let u = fuel.up in let r = higher f in let q = same_number to (place + 1) h in
            inr ((λ p low m. none_up_to f p (omega (arith, low, q)) m), omega (arith, e, u, r, inside))
        fresh f e false h = let u = fuel.up in let r = higher f in let q = not_equal to (place + 1) h in
            inl (inr (omega (arith, e, u, r, q, inside)))

  module _ (n place count : ℕ) (fuel : IsFuel place count (suc n)) where
    -- so much is left for a statement more
    for_one_more : (b : ℕ) → fuel.left ≡ suc b → size + laps size b ≤ n
    for_one_more b e =
        ⊎_elim (λ x. ⊎_elim (λ m. at_mark (lap (λ l. l + 1) m.1)) (λ m. anywhere (lap (λ l. l + fuel.above + 1) m)) x)
        (λ x. above (lap (λ l. l + fuel.above) x.1)) fuel.enough
      where
        lap : (more : ℕ → ℕ) → more (laps size fuel.left) ≤ suc n → more (size + laps size b) ≤ suc n
        lap more h = subst (λ k. more (laps size k) ≤ suc n) e h

        at_mark : size + laps size b + 1 ≤ suc n → size + laps size b ≤ n
        at_mark h = omega (arith, h)

        anywhere : size + laps size b + fuel.above + 1 ≤ suc n → size + laps size b ≤ n
        anywhere h = omega (arith, h)

        above : size + laps size b + fuel.above ≤ suc n → size + laps size b ≤ n
        above h = let u = fuel.up in let v = fuel.inside in omega (arith, h, u, v)

    -- and behind a mark, where the count isn't at the bound
    behind_mark : (count ≡ bound → ⊥) → place + 1 < size → IsFuel (place + 1) (count + 1) n
    behind_mark below inside = go fuel.left refl
      where
        go : (b : ℕ) → fuel.left ≡ b → IsFuel (place + 1) (count + 1) n
        go zero e = let c = fuel.counted in absurd (below (omega (arith, c, e)))
        go (suc b) e = record {
          left = b;
          counted = (let c = fuel.counted in omega (arith, c, e));
          above = size - (place + 1);
          up = omega (arith, inside);
          inside = inside;
          enough = inl (inr (let l = for_one_more b e in omega (arith, l, inside)));
        }

  none_left : (place count : ℕ) → IsFuel place count 0 → ⊥
  none_left place count fuel =
      let u = fuel.up in
      let v = fuel.inside in
      ⊎_elim (λ x. ⊎_elim (λ m. let l = m.1 in omega (arith, l)) (λ l. omega (arith, l)) x) (λ x. let l = x.1 in
      omega (arith, l, u, v)) fuel.enough

  -- ---- runs

  module _ (judges : ℕ → Bool) where
    -- after n instructions it is over
    abbrev Ends : ℕ → State → Type 0
    Ends n s = IsPast (steps code bound judges n s).way

    past_ends : (n : ℕ) (s : State) → IsPast s.way → Ends n s
    past_ends n s h = subst (λ (x : State). IsPast x.way) (sym (over_stays code bound judges n s (past_is_not_on s.way h))) h

    exchanged_ends : (n : ℕ) (purpose : Purpose) (place : ℕ) (f : Flat) → Ends n (going (place + 1) (after_exchange code purpose f)) →
        Ends n (exchanged code judges purpose place f)
    exchanged_ends n purpose place f h =
        ⊎_elim (λ e. subst (Ends n) (sym e) h) (past_ends n (exchanged code judges purpose place f))
        (exchanged_on code judges purpose place f)

    closed_ends : (n : ℕ) (ended : Bool) (place : ℕ) (f : Flat) → Ends n (closed code ended place f)
    closed_ends n ended place f = past_ends n (closed code ended place f) tt

    module _ (n : ℕ) (next : (place : ℕ) (f : Flat) → IsFuel place f.uniform.count n → Ends n (going place f)) (place : ℕ) (f : Flat)
        (fuel : IsFuel place f.uniform.count (suc n)) where
      abbrev from : Option Instr → State
      from o = carried_out code bound judges o place f

      -- by what is no mark
      goes : (i : Instr) → slice_get code.instructions place ≡ Some i → has_target code place i ≡ true → stays_within code place i ≡ true →
          is_mark (Some i) ≡ false → (to : ℕ) → Leads i place to → (g : Flat) → g.uniform.count ≡ f.uniform.count → Ends n (going to g)
      goes i is a b plain to l g e =
          next to g (subst (λ c. IsFuel to c n) (sym e) (left_over n place f.uniform.count fuel i is a b plain to l))

      by_mark : (line : ℕ) → (place + 1 < size) → (c : Bool) → eqb f.uniform.count bound ≡ c →
          Ends n (if c then stopped code judges (ToClose false) place f else going (place + 1) (after_instr code (Mark line) f))
      by_mark line inside true e = closed_ends n false place f
      by_mark line inside false e =
          next (place + 1) (after_instr code (Mark line) f)
          (behind_mark n place f.uniform.count fuel (not_equal f.uniform.count bound e) inside)

      by_instr : (i : Instr) → slice_get code.instructions place ≡ Some i → has_target code place i ≡ true →
          stays_within code place i ≡ true →
          Ends n (from (Some i))
      by_instr Send is a b = exchanged_ends n Sends place f (goes Send is a b refl (place + 1) refl (after_exchange code Sends f) refl)
      by_instr Reply is a b = exchanged_ends n Replies place f (goes Reply is a b refl (place + 1) refl (after_exchange code Replies f)
          refl)
      by_instr (Vote v) is a b = exchanged_ends n (Votes v) place f
          (goes (Vote v) is a b refl (place + 1) refl (after_exchange code (Votes v) f) refl)
      by_instr Halt is a b = closed_ends n true place f
      by_instr (Mark line) is a b = by_mark line (leads_within code place (Mark line) a b (place + 1) refl) (eqb f.uniform.count bound) refl
      by_instr (Jump target) is a b = goes (Jump target) is a b refl target refl f refl
      by_instr (JumpIfZero r target) is a b = forked (is_nonzero (f.uniform.registers r))
        where
          forked : (c : Bool) → Ends n (if c then going (place + 1) f else going target f)
          forked true = goes (JumpIfZero r target) is a b refl (place + 1) (inr refl) f refl
          forked false = goes (JumpIfZero r target) is a b refl target (inl refl) f refl
      by_instr i is a b = goes i is a b refl (place + 1) refl (after_instr code i f) (same_count code i f.uniform tt)

    ends : (n place : ℕ) (f : Flat) → IsFuel place f.uniform.count n → Ends n (going place f)
    ends zero place f fuel = absurd (none_left place f.uniform.count fuel)
    ends (suc n) place f fuel =
        let m = formed.1.1.each place fuel.inside in
        subst (λ (o : Option Instr). Ends n (from n (ends n) place f fuel o)) (sym m.is)
        (by_instr n (ends n) place f fuel m.instr m.is m.allowed.target m.allowed.within)

  begins : IsFuel 0 0 ((bound + 1) * size)
  begins = record {
    left = bound;
    counted = omega arith;
    above = size;
    up = omega arith;
    inside = formed.0;
    enough = inr ((λ p low m. absurd (omega (arith, low))), enough size bound);
  }
    where
      enough : (n b : ℕ) → laps n b + n ≤ (b + 1) * n
      enough n b = let h = laps_times n b in grind (arith, h)

-- whichever exchanges decide
pub arrives : (code : SuperstepCode) → IsWellFormed code → (bound : ℕ) (judges : ℕ → Bool) (input : List ℤ) →
    (v : Verdict) × (outcome_within code bound judges ((bound + 1) * length code.instructions) input ≡ Some v)
arrives code formed bound judges input =
    let n = (bound + 1) * length code.instructions in
    past_has_outcome code (steps code bound judges n (opening input))
    (ends code formed bound judges n 0 (opening input).flat (begins code formed bound))
