-- A stretch of well-formed code comes to an exchange: between two marks it goes up, and no more marks are passed than statements begin.
use Rattle.std.proofs.Common.{◌≡◌, ℕ, zero, suc, ◌+◌, ◌-◌, ◌*◌, ◌<◌, ◌≤◌, List, length, Bool, true, false, eqb, Option, Some, ℤ, refl, sym}
use Rattle.std.proofs.Common.{ap, ◌∙◌, subst, arith, ⊎_elim, ◌⊎◌, inl, inr}
use Rattle.std.specs.Prelude.{if◌then◌else◌, slice_get}
use Rattle.std.proofs.lemmas.Bool.Decides.{nat_tests}
use Rattle.superstep_instructions.specs.declared.instr.Side.TheVariants.{Uniform, Private}
use Rattle.superstep_instructions.specs.declared.instr.Instr.{Instr}
use Rattle.superstep_instructions.specs.declared.instr.Instr.TheVariants.{Mark, Ask, Send, Reply, Vote, Jump, JumpIfZero, Halt}
use Rattle.superstep_machine.specs.declared.mark.HeaderMark.{HeaderMark}
use Rattle.superstep_machine.specs.declared.mark.HeaderMark.TheVariants.{Clear, OutOfMemory, OutOfReserve}
use Rattle.superstep_instructions.specs.Code.{SuperstepCode}
use Rattle.superstep_machine.specs.Setting.{Setting, workers}
use Rattle.superstep_machine.specs.Parts.{UniformPart}
use Rattle.superstep_machine.specs.Steps.{on_uniform}
use Rattle.superstep_machine.specs.Words.{Message}
use Rattle.superstep_machine.specs.Worker.{Worker, after_instr}
use Rattle.superstep_machine.specs.Stretch.{ToSend, ToReply, ToVote, ToClose, Arrival, Nowhere, At, advance, until}
use Rattle.superstep_machine.specs.Machine.{phases, phase, column}
use Rattle.superstep_machine.specs.Run as machine
use Rattle.bsp_verify.specs.Control.{Leads}
use Rattle.bsp_verify.specs.Judging.{is_mark, has_target, stays_within}
use Rattle.bsp_verify.specs.WellFormed.{IsWellFormed}
use Rattle.bsp_verify.specs.Runs.{RunsArrive}
use Rattle.bsp_verify.proofs.Ways.{leads_within}
use Rattle.bsp_verify.proofs.PathLemmas.{step_rises}
use Rattle.bsp_verify.proofs.RunLemmas.{decided_same}

abbrev pub Counts : Instr → Type 0
Counts (Mark line) = ⊥
Counts _ = Unit {0}

-- no instruction but a mark counts
pub same_count : (code : SuperstepCode) (i : Instr) (u : UniformPart) → Counts i → (on_uniform code i u).count ≡ u.count
same_count code (Mark line) u h = absurd h
same_count code (Ask Uniform d c s q) u h = refl
same_count code (Ask Private d c s q) u h = refl
same_count code i u h = refl

-- so many instructions for so many statements
abbrev pub laps : ℕ → ℕ → ℕ
laps n zero = 0
laps n (suc b) = n + laps n b

pub laps_times : (n b : ℕ) → laps n b ≡ b * n
laps_times n zero = grind arith
laps_times n (suc b) = let h = laps_times n b in grind (arith, h)

laps_grow : (n c b m : ℕ) → b + c ≡ m → laps n b ≤ laps n m
laps_grow n zero b m h = subst (λ k. laps n b ≤ laps n k) (let e : b ≡ m = omega (arith, h) in e) (omega arith)
laps_grow n (suc c) b zero h = absurd (omega (arith, h))
laps_grow n (suc c) b (suc m) h = let l = laps_grow n c b m (omega (arith, h)) in omega (arith, l)

pub not_equal : (n m : ℕ) → eqb n m ≡ false → n ≡ m → ⊥
not_equal n m h e = grind (arith, nat_tests)

pub no_mark : {A : Type 0} (o : Option Instr) (i : Instr) → o ≡ Some i → is_mark (Some i) ≡ false → is_mark o ≡ true → A
no_mark o i e f h = absurd (clash (is_mark (Some i)) f (ap is_mark (sym e) ∙ h))
  where
    clash : (b : Bool) → b ≡ false → b ≡ true → ⊥
    clash b f h = cc

module _ (t : Setting) (formed : IsWellFormed t.code) where
  abbrev pub size : ℕ
  size = length t.code.instructions

  -- Enough instructions to come to an exchange from a place: what is above it, and all of them for each statement to come. At a mark
  -- the latter are enough.
  pub record IsFuel (place count n : ℕ) : Type 0 where
    pub left : ℕ
    pub counted : count + left ≡ t.bound
    pub above : ℕ
    pub up : place + above ≡ size
    pub inside : place < size
    pub enough : ((is_mark (slice_get t.code.instructions place) ≡ true) × (laps size left + 1 ≤ n)) ⊎ (laps size left + above + 1 ≤ n)

  abbrev pub IsStopped : Arrival Worker → Type 0
  IsStopped Nowhere = ⊥
  IsStopped (At (ToClose ended) place x) = Unit {0}
  IsStopped (At stop place x) = (place + 1 < size) × (x.uniform.count ≤ t.bound)

  module _ (n place count : ℕ) (fuel : IsFuel place count (suc n)) (i : Instr) (is : slice_get t.code.instructions place ≡ Some i)
      (target : has_target t.code place i ≡ true) (within : stays_within t.code place i ≡ true) where
    -- what is left at a successor of what is no mark
    left_over : is_mark (Some i) ≡ false → (to : ℕ) → Leads i place to → IsFuel to count n
    left_over plain to l = record {
      left = fuel.left;
      counted = fuel.counted;
      above = size - to;
      up = omega (arith, inside);
      inside = inside;
      enough = ⊎_elim (λ m. no_mark (slice_get t.code.instructions place) i is plain m.0)
          (λ e. ⊎_elim (λ r. inr (upward e r)) (λ r. inl (r, marked e)) (step_rises t.code place i target to l)) fuel.enough;
    }
      where
        inside : to < size
        inside = leads_within t.code place i target within to l

        upward : laps size fuel.left + fuel.above + 1 ≤ suc n → place < to → laps size fuel.left + (size - to) + 1 ≤ n
        upward e r = let u = fuel.up in omega (arith, e, r, u, inside)

        marked : laps size fuel.left + fuel.above + 1 ≤ suc n → laps size fuel.left + 1 ≤ n
        marked e = let u = fuel.up in let v = fuel.inside in omega (arith, e, u, v)

    -- and behind a mark, where the count isn't at the bound
    behind_mark : (count ≡ t.bound → ⊥) → place + 1 < size → IsFuel (place + 1) (count + 1) n
    behind_mark below inside = go fuel.left refl
      where
        go : (b : ℕ) → fuel.left ≡ b → IsFuel (place + 1) (count + 1) n
        go zero e = let c = fuel.counted in absurd (below (omega (arith, c, e)))
        go (suc b) e = record {
          left = b;
          counted = (let c = fuel.counted in omega (arith, c, e));
          above = size - (place + 1);
          up = omega (arith, inside);
          inside = inside;
          enough = inr (⊎_elim (λ m. let l = subst (λ k. laps size k + 1 ≤ suc n) e m.1 in omega (arith, l, inside)) (λ m. let l =
              subst (λ k. laps size k + fuel.above + 1 ≤ suc n) e m in omega (arith, l, inside)) fuel.enough);
        }

    not_past : count ≤ t.bound
    not_past = let c = fuel.counted in omega (arith, c)

  module _ (w : ℕ) where
    abbrev pub from : ℕ → ℕ → Worker → Arrival Worker
    from n place x = until t.bound (λ (y : Worker). y.uniform) (after_instr t w) t.code.instructions n place x

    module _ (n : ℕ) (next : (place : ℕ) (x : Worker) → IsFuel place x.uniform.count n → IsStopped (from n place x)) (place : ℕ)
        (x : Worker) (fuel : IsFuel place x.uniform.count (suc n)) where
      abbrev at : Instr → Arrival Worker
      at i = advance t.bound (λ (y : Worker). y.uniform) (after_instr t w) Nowhere (λ stop k z. At stop k z) (from n) (Some i) place x

      step : (i : Instr) → slice_get t.code.instructions place ≡ Some i → has_target t.code place i ≡ true →
          stays_within t.code place i ≡ true → IsStopped (at i)
      step Send is a b = (leads_within t.code place Send a b (place + 1) refl, not_past n place x.uniform.count fuel Send is a b)
      step Reply is a b = (leads_within t.code place Reply a b (place + 1) refl, not_past n place x.uniform.count fuel Reply is a b)
      step (Vote v) is a b = (
        leads_within t.code place (Vote v) a b (place + 1) refl,
        not_past n place x.uniform.count fuel (Vote v) is a b,
      )
      step Halt is a b = tt
      step (Mark line) is a b = go (eqb x.uniform.count t.bound) refl
        where
          go : (c : Bool) → eqb x.uniform.count t.bound ≡ c →
              IsStopped (if c then At (ToClose false) place x else from n (place + 1) (after_instr t w (Mark line) x))
          go true e = tt
          go false e = next (place + 1) (after_instr t w (Mark line) x) (behind_mark n place x.uniform.count fuel (Mark line) is a b
              (not_equal x.uniform.count t.bound e) (leads_within t.code place (Mark line) a b (place + 1) refl))
      step (Jump target) is a b = next target x (left_over n place x.uniform.count fuel (Jump target) is a b refl target refl)
      step (JumpIfZero r target) is a b = go _
        where
          go : (c : Bool) → IsStopped (if c then from n (place + 1) x else from n target x)
          go true = next (place + 1) x (left_over n place x.uniform.count fuel (JumpIfZero r target) is a b refl (place + 1) (inr refl))
          go false = next target x (left_over n place x.uniform.count fuel (JumpIfZero r target) is a b refl target (inl refl))
      step i is a b = next (place + 1) (after_instr t w i x) (subst (λ c. IsFuel (place + 1) c n) (sym (same_count t.code i x.uniform tt))
          (left_over n place x.uniform.count fuel i is a b refl (place + 1) refl))

    pub stops : (n place : ℕ) (x : Worker) → IsFuel place x.uniform.count n → IsStopped (from n place x)
    stops zero place x fuel = ⊎_elim (λ m. let l = m.1 in absurd (omega (arith, l))) (λ l. absurd (omega (arith, l))) fuel.enough
    stops (suc n) place x fuel =
        let m = formed.1.1.each place fuel.inside in
        subst (λ (o : Option Instr). IsStopped (advance t.bound (λ (y : Worker). y.uniform) (after_instr t w) Nowhere (λ stop k z.
        At stop k z) (from n) o place x)) (sym m.is)
        (step n (stops n) place x fuel m.instr m.is m.allowed.target m.allowed.within)

  -- ---- a run

  -- it isn't lost, and as long as it goes on it is in the code
  pub record IsRunning (s : machine.State) : Type 0 where
    pub found : s.way ≡ machine.Lost → ⊥
    pub inside : s.way ≡ machine.On → (s.place < size) × (s.worker.uniform.count ≤ t.bound)

  module _ (ample : (t.bound + 1) * size + 1 ≤ t.enough) (w : ℕ) (messages : List Message) where
    exchanged : (r : machine.Ready) → IsRunning (record r.state { worker = machine.after_exchange t w r.purpose r.state.worker messages }) →
        IsRunning (machine.after t w r messages)
    exchanged r a = go (machine.mark_of messages)
      where
        go : (mark : HeaderMark) → IsRunning (machine.after_with t w r messages mark)
        go OutOfMemory = record { found = λ h. cc; inside = λ h. cc }
        go OutOfReserve = record { found = λ h. cc; inside = λ h. cc }
        go Clear = record {
          found = λ h. a.found (decided_same machine.Lost (λ key ended e. cc) r.purpose r.state.worker.uniform (machine.key_of messages)
              r.state.way h);
          inside = λ h. a.inside (decided_same machine.On (λ key ended e. cc) r.purpose r.state.worker.uniform (machine.key_of messages)
              r.state.way h);
        }

    arrived : (s : machine.State) → (s.way ≡ machine.Lost → ⊥) → (a : Arrival Worker) → IsStopped a →
        IsRunning (machine.after t w (machine.ready_at s a) messages)
    arrived s f Nowhere h = absurd h
    arrived s f (At ToSend place x) h = exchanged (machine.ready_at s (At ToSend place x)) (record { found = f; inside = λ e. h })
    arrived s f (At ToReply place x) h = exchanged (machine.ready_at s (At ToReply place x)) (record { found = f; inside = λ e. h })
    arrived s f (At (ToVote v) place x) h = exchanged (machine.ready_at s (At (ToVote v) place x)) (record { found = f; inside = λ e. h })
    arrived s f (At (ToClose ended) place x) h =
        exchanged (machine.ready_at s (At (ToClose ended) place x)) (record { found = λ e. cc; inside = λ e. cc })

    fuelled : (place count : ℕ) → place < size → count ≤ t.bound → IsFuel place count t.enough
    fuelled place count l c = record {
      left = t.bound - count;
      counted = omega (arith, c);
      above = size - place;
      up = omega (arith, l);
      inside = l;
      enough = inr (go (laps_grow size count (t.bound - count) t.bound (omega (arith, c))) (laps_times size t.bound));
    }
      where
        go : laps size (t.bound - count) ≤ laps size t.bound → laps size t.bound ≡ t.bound * size →
            laps size (t.bound - count) + (size - place) + 1 ≤ t.enough
        go a b = let m = ample in grind (arith, a, b, m, l)

    next_running : (s : machine.State) → IsRunning s → IsRunning (machine.after t w (machine.ready t w s) messages)
    next_running s a = marked (machine.mark_now s.refusals)
      where
        stays : (way : machine.Way) → s.way ≡ way → (way ≡ machine.On → ⊥) →
            IsRunning (machine.after t w (record { purpose = machine.Closes; state = s }) messages)
        stays way e no_way = exchanged (record { purpose = machine.Closes; state = s }) (record {
          found = a.found;
          inside =
              λ h. absurd (no_way (sym e ∙ h));
        })

        go : (way : machine.Way) → s.way ≡ way → IsRunning (machine.after t w (machine.ready_by t w s way) messages)
        go machine.On e = let i = a.inside e in
            arrived s a.found (machine.stretch t w s) (stops w t.enough s.place s.worker (fuelled s.place s.worker.uniform.count i.0 i.1))
        go (machine.Ending f) e = stays (machine.Ending f) e (λ h. cc)
        go (machine.Past k f) e = stays (machine.Past k f) e (λ h. cc)
        go (machine.Refused mark) e = stays (machine.Refused mark) e (λ h. cc)
        go machine.Lost e = absurd (a.found e)

        marked : (mark : HeaderMark) → IsRunning (machine.after t w (machine.ready_with t w s mark) messages)
        marked Clear = go s.way refl
        marked OutOfMemory = exchanged (record { purpose = machine.Closes; state = machine.stopped OutOfMemory }) (record {
          found = λ h. cc;
          inside = λ h. cc;
        })
        marked OutOfReserve = exchanged (record { purpose = machine.Closes; state = machine.stopped OutOfReserve }) (record {
          found =
              λ h. cc;
          inside = λ h. cc;
        })

  phases_running : (t.bound + 1) * size + 1 ≤ t.enough → (p n : ℕ) (ws : ℕ → machine.State) → ((w : ℕ) → IsRunning (ws w)) → (w : ℕ) →
      IsRunning (phases (machine.bsp t) p n ws w)
  phases_running ample p zero ws a w = a w
  phases_running ample p (suc n) ws a w =
      phases_running ample p n (phase (machine.bsp t) p ws) (λ v. next_running ample v (column (machine.bsp t) p ws v) (ws v) (a v)) w

  begins : (input : List ℤ) (w : ℕ) → IsRunning (machine.opening t input w)
  begins input w = record { found = λ h. cc; inside = λ h. (formed.0, omega arith) }

pub runs_arrive : RunsArrive
runs_arrive t formed ample input n w =
    (phases_running t formed ample (workers t) n (machine.opening t input) (begins t formed input) w).found
