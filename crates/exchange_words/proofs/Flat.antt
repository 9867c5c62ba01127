-- What the accesses of the flat machine take, exchange by exchange, is at most what they take instruction by instruction.
use Rattle.std.proofs.Common.{◌≡◌, ℕ, zero, suc, ◌+◌, ◌≤◌, Bool, true, false, eqb, Option, Some, None, refl, sym, ap, ◌∙◌, subst, arith}
use Rattle.std.specs.Prelude.{if◌then◌else◌, slice_get}
use Rattle.pram_values.specs.Truth.{is_nonzero}
use Rattle.superstep_instructions.specs.declared.instr.Instr.{Instr}
use Rattle.superstep_instructions.specs.declared.instr.Instr.TheVariants.{Mark, Send, Reply, Vote, Jump, JumpIfZero, Halt}
use Rattle.superstep_machine.specs.Stretch.{ToClose, Arrival, Nowhere, At, advance, until}
use Rattle.superstep_machine.specs.Run.{Purpose, Sends, Replies, Votes, Closes, Way, On, Ending, Past, Refused, Lost, is_held, is_over}
use Rattle.superstep_machine.specs.Run.{decided}
use Rattle.bsp_verify.proofs.RunLemmas.{decided_same}
use Rattle.flat_machine.specs.Flat.{Flat, after_instr}
use Rattle.flat_machine.specs.ByExchanges.{Plan, State, stretch, ready_at, ready_by, after, after_exchange, next}
use Rattle.flat_machine.specs.ByInstructions.{exchanged, stopped, closed, going, steps, everywhere}
use Rattle.flat_machine.proofs.Stepping.{IsPast, past_is_not_on}
use Rattle.flat_machine.proofs.Bridge.{uniform, lost_at, on_is}
use Rattle.exchange_words.specs.Accesses.{words_within}
use Rattle.exchange_words.proofs.Stretches.{stretch_words}
use Rattle.exchange_words.proofs.Workers.{words_if, words_from}

module _ (t : Plan) (p : ℕ) where
  abbrev many : ℕ → State → State
  many n s = steps t.code t.bound everywhere n s

  abbrev taken : ℕ → State → ℕ
  taken n s = words_within t.code t.bound p n s

  -- a run that doesn't go on accesses nothing
  idle : (x : ℕ) (s : State) → (s.way ≡ On → ⊥) → words_from t p x s ≡ 0
  idle zero s h = refl
  idle (suc x) s h = go (idle x) s.way refl
    where
      go : ((z : State) → (z.way ≡ On → ⊥) → words_from t p x z ≡ 0) → (way : Way) → s.way ≡ way → words_from t p (suc x) s ≡ 0
      go rest On e = absurd (h e)
      go rest (Past key ended) e = ap (λ w. if is_over w then 0 else words_if t p s w + words_from t p x (next t s)) e
      go rest (Refused mark) e = ap (λ w. if is_over w then 0 else words_if t p s w + words_from t p x (next t s)) e
      go rest Lost e = ap (λ w. if is_over w then 0 else words_if t p s w + words_from t p x (next t s)) e
      go rest (Ending ended) e =
          let z : State = after t.code (record { purpose = Closes; state = s }) in
          let a : words_from t p (suc x) s ≡ 0 + words_from t p x z =
          ap (λ w. if is_over w then 0 else words_if t p s w + words_from t p x (after t.code (ready_by t s w))) e in
          let past : z.way ≡ Past s.flat.key ended = ap (λ w. decided Closes s.flat.uniform s.flat.key w) e in
          let b = rest z (λ on. let c : Past s.flat.key ended ≡ On = sym past ∙ on in cc) in
          omega (arith, a, b)

  -- a close does not go on
  closing_idle : (x : ℕ) (s : State) (ended : Bool) (q : Purpose) (place : ℕ) (f : Flat) →
      words_from t p x (after t.code (record { purpose = q; state = record s { flat = f; place = place; way = Ending ended } })) ≡ 0
  closing_idle x s ended q place f =
      idle x (after t.code (record { purpose = q; state = record s { flat = f; place = place; way = Ending ended } }))
      (λ on. let e : Ending ended ≡ On = decided_same On (λ key b z. cc) q f.uniform f.key (Ending ended) on in cc)

  abbrev Bounded : ℕ → Type 0
  Bounded x = (s : State) (n : ℕ) → IsPast (many n s).way → words_from t p x s ≤ taken n s

  -- ---- a stretch, and what comes behind it

  module _ (x : ℕ) (rest : Bounded x) (s : State) (on : s.way ≡ On) where
    abbrev behind : Arrival Flat → ℕ
    behind a = words_from t p x (after t.code (ready_at s a))

    abbrev from : ℕ → ℕ → Flat → Arrival Flat
    from a place f = until t.bound uniform (after_instr t.code) t.code.instructions a place f

    abbrev Reaches : ℕ → Type 0
    Reaches a = (place : ℕ) (f : Flat) (n : ℕ) → IsPast (many n (going place f)).way →
        stretch_words t.code t.bound p a place f + behind (from a place f) ≤ taken n (going place f)

    lost : behind Nowhere ≡ 0
    lost = idle x (after t.code (ready_at s Nowhere)) (λ e. cc)

    module _ (a : ℕ) (reaches : Reaches a) (place : ℕ) (f : Flat) (m : ℕ) where
      abbrev led : Option Instr → State
      led o = advance t.bound uniform (after_instr t.code) (lost_at t place f) (stopped t.code everywhere) going o place f

      abbrev on_the_way : Option Instr → ℕ
      on_the_way o =
          advance t.bound uniform (after_instr t.code) 0 (λ stop k g. 0) (stretch_words t.code t.bound p a) o place f

      abbrev arrival : Option Instr → Arrival Flat
      arrival o = advance t.bound uniform (after_instr t.code) Nowhere (λ stop k g. At stop k g) (from a) o place f

      -- an exchange that may decide
      exchange : (q : Purpose) → IsPast (many m (exchanged t.code everywhere q place f)).way →
          0 + words_from t p x (after t.code (record { purpose = q; state = record s { flat = f; place = place + 1 } }))
          ≤ taken m (exchanged t.code everywhere q place f)
      exchange q h =
          let e : after t.code (record { purpose = q; state = record s { flat = f; place = place + 1 } })
          ≡ exchanged t.code everywhere q place f =
          ap (λ w. record { flat = after_exchange t.code q f; place = place + 1; way = decided q f.uniform f.key w }) on in
          let b = rest (exchanged t.code everywhere q place f) m h in
          let c : words_from t p x (after t.code (record { purpose = q; state = record s { flat = f; place = place + 1 } }))
          ≡ words_from t p x (exchanged t.code everywhere q place f) = ap (words_from t p x) e in
          omega (arith, b, c)

      close : (ended : Bool) → 0 + behind (At (ToClose ended) place f) ≤ taken m (closed t.code ended place f)
      close ended =
          let e = closing_idle x s ended (if is_held f.uniform.put then Sends else Closes) place f in omega (arith, e)

      marked : (line : ℕ) (b : Bool) →
          IsPast (many m (if b then closed t.code false place f else going (place + 1) (after_instr t.code (Mark line) f))).way →
          (if b then 0 else stretch_words t.code t.bound p a (place + 1) (after_instr t.code (Mark line) f))
          + behind (if b then At (ToClose false) place f else from a (place + 1) (after_instr t.code (Mark line) f))
          ≤ taken m (if b then closed t.code false place f else going (place + 1) (after_instr t.code (Mark line) f))
      marked line true h = close false
      marked line false h = reaches (place + 1) (after_instr t.code (Mark line) f) m h

      forked : (target : ℕ) (b : Bool) → IsPast (many m (if b then going (place + 1) f else going target f)).way →
          (if b then stretch_words t.code t.bound p a (place + 1) f else stretch_words t.code t.bound p a target f)
          + behind (if b then from a (place + 1) f else from a target f)
          ≤ taken m (if b then going (place + 1) f else going target f)
      forked target true h = reaches (place + 1) f m h
      forked target false h = reaches target f m h

      leads : (o : Option Instr) → IsPast (many m (led o)).way → on_the_way o + behind (arrival o) ≤ taken m (led o)
      leads None h = let e = lost in omega (arith, e)
      leads (Some (Mark line)) h = marked line (eqb f.uniform.count t.bound) h
      leads (Some Send) h = exchange Sends h
      leads (Some Reply) h = exchange Replies h
      leads (Some (Vote d)) h = exchange (Votes d) h
      leads (Some (Jump target)) h = reaches target f m h
      leads (Some (JumpIfZero r target)) h = forked target (is_nonzero (f.uniform.registers r)) h
      leads (Some Halt) h = close true
      leads (Some i) h = reaches (place + 1) (after_instr t.code i f) m h

    reach : (a : ℕ) → Reaches a
    reach zero place f n h = let e = lost in omega (arith, e)
    reach (suc a) place f zero h = absurd (past_is_not_on On h refl)
    reach (suc a) place f (suc m) h =
        let b = leads a (reach a) place f m (slice_get t.code.instructions place) h in omega (arith, b)

  bounded : (x : ℕ) → Bounded x
  bounded zero s n h = omega arith
  bounded (suc x) s n h = go (bounded x) s.way refl
    where
      none : words_from t p (suc x) s ≡ 0 → words_from t p (suc x) s ≤ taken n s
      none e = omega (arith, e)

      go : Bounded x → (way : Way) → s.way ≡ way → words_from t p (suc x) s ≤ taken n s
      go rest On e =
          let same : s ≡ going s.place s.flat = on_is t s e in
          let a : words_from t p (suc x) s ≡ stretch_words t.code t.bound p t.enough s.place s.flat
          + words_from t p x (after t.code (ready_at s (stretch t s))) =
          ap (λ w. if is_over w then 0 else words_if t p s w + words_from t p x (after t.code (ready_by t s w))) e in
          let b = reach x rest s e t.enough s.place s.flat n (subst (λ (z : State). IsPast (many n z).way) same h) in
          let c : taken n s ≡ taken n (going s.place s.flat) = ap (taken n) same in
          omega (arith, a, b, c)
      go rest (Ending ended) e = none (idle (suc x) s (λ on. let c : Ending ended ≡ On = sym e ∙ on in cc))
      go rest (Past key ended) e = none (idle (suc x) s (λ on. let c : Past key ended ≡ On = sym e ∙ on in cc))
      go rest (Refused mark) e = none (idle (suc x) s (λ on. let c : Refused mark ≡ On = sym e ∙ on in cc))
      go rest Lost e = none (idle (suc x) s (λ on. let c : Lost ≡ On = sym e ∙ on in cc))

  pub taken_by_instructions : (x : ℕ) (s : State) (n : ℕ) → IsPast (many n s).way → words_from t p x s ≤ taken n s
  taken_by_instructions x s n h = bounded x s n h
