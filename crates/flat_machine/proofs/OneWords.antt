-- The exchanges of a run, with their words, are the same with any number of instructions that is enough for a stretch.
use Rattle.std.proofs.Common.{◌≡◌, ℕ, zero, suc, ◌+◌, ◌<◌, ◌≤◌, List, [], ◌∷◌, map, length, Bool, true, false, eqb, Option, Some, None, ℤ}
use Rattle.std.proofs.Common.{refl, sym, ap, ◌∙◌, arith, ⊎_elim, ◌⊎◌, inl, inr}
use Rattle.std.specs.Prelude.{if◌then◌else◌, slice_get}
use Rattle.std.specs.List.{range_with_len}
use Rattle.std.proofs.lemmas.Bool.{cases_lt}
use Rattle.pram_values.specs.Truth.{is_nonzero}
use Rattle.pram_values.proofs.Totals.{total_within}
use Rattle.write_rules.specs.Verdict.{Verdict}
use Rattle.superstep_machine.specs.declared.mark.HeaderMark.{HeaderMark}
use Rattle.superstep_machine.specs.declared.mark.HeaderMark.TheVariants.{Clear, OutOfMemory, OutOfReserve}
use Rattle.superstep_instructions.specs.declared.instr.Instr.{Instr}
use Rattle.superstep_instructions.specs.declared.instr.Instr.TheVariants.{Mark, Send, Reply, Vote, Jump, JumpIfZero, Halt}
use Rattle.superstep_machine.specs.Setting.{Setting, workers}
use Rattle.superstep_machine.specs.Words.{Message, words}
use Rattle.superstep_machine.specs.Worker.{Worker, after_instr}
use Rattle.superstep_machine.specs.Stretch.{ToSend, ToReply, ToVote, ToClose, Arrival, Nowhere, At, advance, until}
use Rattle.superstep_machine.specs.Machine.{phase, column, run}
use Rattle.superstep_machine.specs.Run.{Purpose, Sends, Replies, Votes, Closes, Way, On, Ending, Past, Refused, Lost, State, Ready}
use Rattle.superstep_machine.specs.Run.{mark_now, mark_of, stretch, ready, ready_at, ready_by, ready_with, message_for, message_with}
use Rattle.superstep_machine.specs.Run.{message_of, after_exchange, after_with, after, is_over, outcome_of, bsp, opening, setting}
use Rattle.superstep_machine.specs.Trace.{words_between, sum_over, exchange_of, exchanges_from, exchanges_by}
use Rattle.flat_machine.specs.ByExchanges as flat
use Rattle.flat_machine.specs.Flat.{Flat}
use Rattle.flat_machine.specs.Flatness.{IsMapFor, plan}
use Rattle.flat_machine.specs.OneList.{ExchangesAreUnique}
use Rattle.superstep_machine.proofs.Refused.{map_within}
use Rattle.flat_machine.proofs.Lockstep.{Agree, readies}
use Rattle.flat_machine.proofs.Runs.{first, phase_agrees, run_same, opening_agrees}
use Rattle.flat_machine.proofs.Listed.{lost_ends}

module _ (t : Setting) (m : ℕ) (more : t.enough ≤ m) where
  -- the same with more instructions
  abbrev u : Setting
  u = record t { enough = m }

  -- ---- stretches

  -- what a stretch arrives at
  abbrev Same : Arrival Worker → Arrival Worker → Type 0
  Same Nowhere other = Unit {0}
  Same (At stop place x) other = At stop place x ≡ other

  module _ (w : ℕ) where
    abbrev from : ℕ → ℕ → Worker → Arrival Worker
    from n place x = until t.bound (λ (y : Worker). y.uniform) (after_instr t w) t.code.instructions n place x

    module _ (next other : ℕ → Worker → Arrival Worker) (same : (place : ℕ) (x : Worker) → Same (next place x) (other place x)) (place : ℕ)
        (x : Worker) where
      abbrev at : (ℕ → Worker → Arrival Worker) → Option Instr → Arrival Worker
      at go o = advance t.bound (λ (y : Worker). y.uniform) (after_instr t w) Nowhere (λ stop k y. At stop k y) go o place x

      marked : (line : ℕ) (b : Bool) →
          Same (if b then At (ToClose false) place x else next (place + 1) (after_instr t w (Mark line) x))
          (if b then At (ToClose false) place x else other (place + 1) (after_instr t w (Mark line) x))
      marked line true = refl
      marked line false = same (place + 1) (after_instr t w (Mark line) x)

      forked : (target : ℕ) (b : Bool) → Same (if b then next (place + 1) x else next target x)
          (if b then other (place + 1) x else other target x)
      forked target true = same (place + 1) x
      forked target false = same target x

      advances : (o : Option Instr) → Same (at next o) (at other o)
      advances None = tt
      advances (Some (Mark line)) = marked line (eqb x.uniform.count t.bound)
      advances (Some Send) = refl
      advances (Some Reply) = refl
      advances (Some (Vote d)) = refl
      advances (Some (Jump target)) = same target x
      advances (Some (JumpIfZero r target)) = forked target (is_nonzero (x.uniform.registers r))
      advances (Some Halt) = refl
      advances (Some i) = same (place + 1) (after_instr t w i x)

    longer : (n k : ℕ) → n ≤ k → (place : ℕ) (x : Worker) → Same (from n place x) (from k place x)
    longer zero k l place x = tt
    longer (suc n) zero l place x = absurd (omega (arith, l))
    longer (suc n) (suc k) l place x =
        advances (from n) (from k) (longer n k (omega (arith, l))) place x (slice_get t.code.instructions place)

  -- ---- one exchange

  -- a worker comes to the same, unless it's lost
  ready_same : (w : ℕ) (s : State) → (ready t w s ≡ ready u w s) ⊎ ((ready t w s).state.way ≡ Lost)
  ready_same w s = marks (mark_now s.refusals)
    where
      arrived : (a b : Arrival Worker) → Same a b → (ready_at s a ≡ ready_at s b) ⊎ ((ready_at s a).state.way ≡ Lost)
      arrived Nowhere b e = inr refl
      arrived (At stop place x) b e = inl (ap (ready_at s) e)

      by_way : (way : Way) → (ready_by t w s way ≡ ready_by u w s way) ⊎ ((ready_by t w s way).state.way ≡ Lost)
      by_way On = arrived (stretch t w s) (stretch u w s) (longer w t.enough m more s.place s.worker)
      by_way (Ending ended) = inl refl
      by_way (Past key ended) = inl refl
      by_way (Refused mark) = inl refl
      by_way Lost = inl refl

      marks : (mark : HeaderMark) → (ready_with t w s mark ≡ ready_with u w s mark) ⊎ ((ready_with t w s mark).state.way ≡ Lost)
      marks Clear = by_way s.way
      marks OutOfMemory = inl refl
      marks OutOfReserve = inl refl

  message_same : (w : ℕ) (s : State) (j : ℕ) → ready t w s ≡ ready u w s → message_of t w s j ≡ message_of u w s j
  message_same w s j e = ap (λ (r : Ready). message_with t r j (mark_now s.refusals)) e ∙ marks (mark_now s.refusals)
    where
      by_purpose : (p : Purpose) (x : Worker) → message_for t p x j ≡ message_for u p x j
      by_purpose Sends x = refl
      by_purpose Replies x = refl
      by_purpose (Votes d) x = refl
      by_purpose Closes x = refl

      marks : (mark : HeaderMark) → message_with t (ready u w s) j mark ≡ message_with u (ready u w s) j mark
      marks Clear = by_purpose (ready u w s).purpose (ready u w s).state.worker
      marks OutOfMemory = refl
      marks OutOfReserve = refl

  after_same : (w : ℕ) (r : Ready) (messages : List Message) → after t w r messages ≡ after u w r messages
  after_same w r messages = marks (mark_of messages)
    where
      by_purpose : (p : Purpose) (x : Worker) → after_exchange t w p x messages ≡ after_exchange u w p x messages
      by_purpose Sends x = refl
      by_purpose Replies x = refl
      by_purpose (Votes d) x = refl
      by_purpose Closes x = refl

      marks : (mark : HeaderMark) → after_with t w r messages mark ≡ after_with u w r messages mark
      marks Clear = λ i. record (after_with t w r messages Clear) { worker = by_purpose r.purpose r.state.worker i }
      marks OutOfMemory = refl
      marks OutOfReserve = refl

  -- ---- runs

  module _ (room : IsMapFor t.code t.map) (v : Verdict) where
    -- a stretch that comes nowhere closes, and loses the run
    lost_closes : (s : flat.State) → is_over s.way ≡ false → (flat.ready (plan t) s).state.way ≡ Lost → (flat.next (plan t) s).way ≡ Lost
    lost_closes s o e = by_way s.way refl
      where
        next_way : flat.Ready → Way
        next_way r = (flat.after t.code r).way

        arrived : (a : Arrival Flat) → s.way ≡ On → (flat.ready_at s a).state.way ≡ Lost → next_way (flat.ready_at s a) ≡ Lost
        arrived Nowhere on h = refl
        arrived (At ToSend place f) on h = cc
        arrived (At ToReply place f) on h = cc
        arrived (At (ToVote d) place f) on h = cc
        arrived (At (ToClose ended) place f) on h = cc

        by_way : (way : Way) → s.way ≡ way → next_way (flat.ready (plan t) s) ≡ Lost
        by_way On w =
            ap (λ (x : Way). next_way (flat.ready_by (plan t) s x)) w
            ∙ arrived (flat.stretch (plan t) s) w (ap (λ (x : Way). (flat.ready_by (plan t) s x).state.way) (sym w) ∙ e)
        by_way (Ending ended) w = let h : Ending ended ≡ Lost = sym w ∙ ap (λ (x : Way). (flat.ready_by (plan t) s x).state.way) (sym w)
            ∙ e in cc
        by_way (Past key ended) w = let h : true ≡ false = ap is_over (sym w) ∙ o in cc
        by_way (Refused mark) w = let h : true ≡ false = ap is_over (sym w) ∙ o in cc
        by_way Lost w = let h : true ≡ false = ap is_over (sym w) ∙ o in cc

    module _ (s : flat.State) (ws vs : ℕ → State) (a : Agree t room s ws) (same : (w : ℕ) → w < workers t → ws w ≡ vs w)
        (n : ℕ) (going : is_over s.way ≡ false) (h : flat.run (plan t) n (flat.next (plan t) s) ≡ Some (Some v)) where
      readies_same : (w : ℕ) → w < workers t → ready t w (ws w) ≡ ready u w (vs w)
      readies_same w l =
          ⊎_elim (λ e. e)
          (λ e. absurd (lost_ends (plan t) v n (flat.next (plan t) s)
          (lost_closes s going (sym ((readies t room s ws a).states.way w l) ∙ e)) h))
          (ready_same w (ws w))
          ∙ ap (ready u w) (same w l)

      messages_same : (w j : ℕ) → w < workers t → message_of t w (ws w) j ≡ message_of u w (vs w) j
      messages_same w j l =
          message_same w (ws w) j (readies_same w l ∙ ap (ready u w) (sym (same w l))) ∙ ap (λ (x : State). message_of u w x j) (same w l)

      words_same : (i j : ℕ) → i < workers t → words_between t ws i j ≡ words_between u vs i j
      words_same i j l = ap (λ (x : Message). length (words t.code.rule x)) (messages_same i j l)

      within : (i : ℕ) → i < 0 + workers t → i < workers t
      within i l = omega (arith, l)

      exchange_same : exchange_of t ws ≡ exchange_of u vs
      exchange_same = λ i. record {
        purpose = (readies_same 0 (first t room) i).purpose;
        sent = map_within (λ k. sum_over t (λ j. words_between t ws k j)) (λ k. sum_over t (λ j. words_between u vs k j)) (workers t) 0
            (λ k l. total_within 0 (λ x y. x + y) (λ j. words_between t ws k j) (λ j. words_between u vs k j) (workers t) 0
            (λ j q. words_same k j (within k l))) i;
        received = map_within (λ j. sum_over t (λ k. words_between t ws k j)) (λ j. sum_over t (λ k. words_between u vs k j)) (workers t) 0
            (λ j l. total_within 0 (λ x y. x + y) (λ k. words_between t ws k j) (λ k. words_between u vs k j) (workers t) 0
            (λ k q. words_same k j (within k q))) i;
      }

      phase_same : (w : ℕ) → w < workers t → phase (bsp t) (workers t) ws w ≡ phase (bsp u) (workers t) vs w
      phase_same w l =
          ap (λ (r : Ready). after t w r (column (bsp t) (workers t) ws w)) (readies_same w l)
          ∙ ap (λ (c : List Message). after t w (ready u w (vs w)) c)
          (map_within (λ i. message_of t i (ws i) w) (λ i. message_of u i (vs i) w) (workers t) 0 (λ i q. messages_same i w (within i q)))
          ∙ after_same w (ready u w (vs w)) (column (bsp u) (workers t) vs w)

    lists_same : (n k : ℕ) (s : flat.State) (ws vs : ℕ → State) → Agree t room s ws → ((w : ℕ) → w < workers t → ws w ≡ vs w) →
        flat.run (plan t) n s ≡ Some (Some v) → (x : Option Verdict) → run (bsp u) (workers t) k vs ≡ Some x →
        exchanges_from t n ws ≡ exchanges_from u k vs
    lists_same zero k s ws vs a e h x g = cc
    lists_same (suc n) zero s ws vs a e h x g = cc
    lists_same (suc n) (suc k) s ws vs a e h x g =
        ap (λ (b : Bool). if b then [] else exchange_of t ws ∷ exchanges_from t n (phase (bsp t) (workers t) ws))
        (ap is_over (a.way 0 (first t room)))
        ∙ go (λ e2 h2 g2. lists_same n k (flat.next (plan t) s) (phase (bsp t) (workers t) ws) (phase (bsp u) (workers t) vs)
        (phase_agrees t room s ws a) e2 h2 x g2)
        (is_over s.way) refl
        ∙ ap (λ (b : Bool). if b then [] else exchange_of u vs ∷ exchanges_from u k (phase (bsp u) (workers t) vs)) (sym other)
      where
        other : is_over (vs 0).way ≡ is_over s.way
        other = ap (λ (y : State). is_over y.way) (sym (e 0 (first t room))) ∙ ap is_over (a.way 0 (first t room))

        go : (((w : ℕ) → w < workers t → phase (bsp t) (workers t) ws w ≡ phase (bsp u) (workers t) vs w) →
            flat.run (plan t) n (flat.next (plan t) s) ≡ Some (Some v) →
            run (bsp u) (workers t) k (phase (bsp u) (workers t) vs) ≡ Some x →
            exchanges_from t n (phase (bsp t) (workers t) ws) ≡ exchanges_from u k (phase (bsp u) (workers t) vs)) → (b : Bool) →
            is_over s.way ≡ b →
            (if is_over s.way then [] else exchange_of t ws ∷ exchanges_from t n (phase (bsp t) (workers t) ws))
            ≡ (if is_over s.way then [] else exchange_of u vs ∷ exchanges_from u k (phase (bsp u) (workers t) vs))
        go rest true q =
            ap (λ (b : Bool). if b then [] else exchange_of t ws ∷ exchanges_from t n (phase (bsp t) (workers t) ws)) q
            ∙ ap (λ (b : Bool). if b then [] else exchange_of u vs ∷ exchanges_from u k (phase (bsp u) (workers t) vs)) (sym q)
        go rest false q =
            let h2 : flat.run (plan t) n (flat.next (plan t) s) ≡ Some (Some v) =
            ap (λ (b : Bool). if b then Some (flat.outcome_of t.code s) else flat.run (plan t) n (flat.next (plan t) s)) (sym q) ∙ h in
            let g2 : run (bsp u) (workers t) k (phase (bsp u) (workers t) vs) ≡ Some x =
            ap (λ (b : Bool). if b then Some (outcome_of u (map vs (range_with_len 0 (workers t)))) else run (bsp u) (workers t) k
            (phase (bsp u) (workers t) vs)) (sym (other ∙ q)) ∙ g in
            ap (λ (b : Bool). if b then [] else exchange_of t ws ∷ exchanges_from t n (phase (bsp t) (workers t) ws)) q
            ∙ (λ i. exchange_same s ws vs a e n q h2 i
            ∷ rest (phase_same s ws vs a e n q h2) h2 g2 i)
            ∙ ap (λ (b : Bool). if b then [] else exchange_of u vs ∷ exchanges_from u k (phase (bsp u) (workers t) vs)) (sym q)

    pub unique_more : (input : List ℤ) (n k : ℕ) (x : Option Verdict) → run (bsp t) (workers t) n (opening t input) ≡ Some (Some v) →
        run (bsp u) (workers t) k (opening u input) ≡ Some x → exchanges_by t n input ≡ exchanges_by u k input
    unique_more input n k x h g =
        lists_same n k (flat.opening input) (opening t input) (opening u input) (opening_agrees t room input) (λ w l. refl)
        (sym (run_same t room n (flat.opening input) (opening t input) (opening_agrees t room input)) ∙ h) x g

pub exchanges_are_unique : ExchangesAreUnique
exchanges_are_unique code map room input bound verdict other made more a b =
    ⊎_elim
    (λ l. sym a.told ∙ unique_more (setting code map bound a.enough) b.enough (omega (arith, l)) room verdict input a.most b.most
    (Some other) a.ends b.ends ∙ b.told)
    (λ l. sym a.told ∙ sym (unique_more (setting code map bound b.enough) a.enough l room other input b.most a.most (Some verdict) b.ends
    a.ends) ∙ b.told)
    (cases_lt a.enough b.enough)
