-- What the flat machine's run instruction by instruction comes to, its run exchange by exchange does.
use Rattle.std.proofs.Common.{◌≡◌, ℕ, zero, suc, ◌+◌, ◌≤◌, List, Bool, true, false, eqb, Option, Some, None, ℤ, refl, sym, ap, ◌∙◌, subst}
use Rattle.std.proofs.Common.{arith}
use Rattle.std.specs.Prelude.{if◌then◌else◌, slice_get}
use Rattle.pram_values.specs.Truth.{is_nonzero}
use Rattle.write_rules.specs.Verdict.{Verdict}
use Rattle.superstep_instructions.specs.declared.instr.Instr.{Instr}
use Rattle.superstep_instructions.specs.declared.instr.Instr.TheVariants.{Mark, Send, Reply, Vote, Jump, JumpIfZero, Halt}
use Rattle.superstep_instructions.specs.Code.{SuperstepCode}
use Rattle.superstep_machine.specs.Parts.{UniformPart}
use Rattle.superstep_machine.specs.Stretch.{Stop, ToSend, ToReply, ToVote, ToClose, Arrival, Nowhere, At, advance, until}
use Rattle.superstep_machine.specs.declared.key.Key.{Key}
use Rattle.superstep_machine.specs.Run.{Purpose, Sends, Replies, Votes, Closes, Way, On, Ending, Past, Refused, Lost, is_held, is_over}
use Rattle.superstep_machine.specs.Run.{decided, due, unless}
use Rattle.flat_machine.specs.Flat.{Flat, after_instr, after_send}
use Rattle.flat_machine.specs.ByExchanges.{Plan, State, stretch, ready_at, ready_by, after, after_exchange, run, outcome_of, outcome_by}
use Rattle.flat_machine.specs.ByExchanges.{opening}
use Rattle.flat_machine.proofs.Stepping.{IsPast, outcome_is_past, over_stays}
use Rattle.flat_machine.specs.ByInstructions.{stopped, exchanged, closed, going, steps, everywhere, outcome_within}

abbrev pub uniform : Flat → UniformPart
uniform f = f.uniform

-- Whatever two readings of one run answer where it is nowhere, at a stop, or goes on: if the answers stand in a relation there, they do
-- after an instruction.
module _ (code : SuperstepCode) (bound : ℕ) {R Q : Type 0} (Rel : R → Q → Type 0) (place : ℕ) (f : Flat)
    (nowhere : R) (nowheres : Q) (lost : Rel nowhere nowheres)
    (stops : Stop → ℕ → Flat → R) (stopping : Stop → ℕ → Flat → Q) (stops_same : (stop : Stop) →
    Rel (stops stop place f) (stopping stop place f))
    (on : ℕ → Flat → R) (going_on : ℕ → Flat → Q) (goes : (k : ℕ) (g : Flat) → Rel (on k g) (going_on k g)) where
  marked : (line : ℕ) (b : Bool) →
      Rel (if b then stops (ToClose false) place f else on (place + 1) (after_instr code (Mark line) f))
      (if b then stopping (ToClose false) place f else going_on (place + 1) (after_instr code (Mark line) f))
  marked line true = stops_same (ToClose false)
  marked line false = goes (place + 1) (after_instr code (Mark line) f)

  forked : (target : ℕ) (b : Bool) → Rel (if b then on (place + 1) f else on target f)
      (if b then going_on (place + 1) f else going_on target f)
  forked target true = goes (place + 1) f
  forked target false = goes target f

  pub advances : (o : Option Instr) → Rel (advance bound uniform (after_instr code) nowhere stops on o place f)
      (advance bound uniform (after_instr code) nowheres stopping going_on o place f)
  advances None = lost
  advances (Some (Mark line)) = marked line (eqb f.uniform.count bound)
  advances (Some Send) = stops_same ToSend
  advances (Some Reply) = stops_same ToReply
  advances (Some (Vote d)) = stops_same (ToVote d)
  advances (Some (Jump target)) = goes target f
  advances (Some (JumpIfZero r target)) = forked target (is_nonzero (f.uniform.registers r))
  advances (Some Halt) = stops_same (ToClose true)
  advances (Some i) = goes (place + 1) (after_instr code i f)

module _ (t : Plan) where
  abbrev pub many : ℕ → State → State
  many = steps t.code t.bound everywhere

  abbrev pub lost_at : ℕ → Flat → State
  lost_at place f = record { flat = f; place = place; way = Lost }

  -- a run that is over stays so
  stays : (n : ℕ) (s : State) → (s.way ≡ On → ⊥) → many n s ≡ s
  stays = over_stays t.code t.bound everywhere

  -- only what is past has an outcome
  pub no_outcome : {A : Type 0} (s : State) (way : Way) → s.way ≡ way → (IsPast way → ⊥) → (v : Verdict) → outcome_of t.code s ≡ Some v → A
  no_outcome s way e h v o = absurd (h (subst IsPast e (outcome_is_past t.code s v o)))

  pub on_is : (s : State) → s.way ≡ On → s ≡ going s.place s.flat
  on_is s e = λ i. record { flat = s.flat; place = s.place; way = e i }

  -- a run of one exchange more, by its way
  abbrev pub went : ℕ → State → Way → Option (Option Verdict)
  went x s way = if is_over way then Some (outcome_of t.code s) else run t x (after t.code (ready_by t s way))

  pub run_on : (x : ℕ) (s : State) → s.way ≡ On → run t (suc x) s ≡ run t x (after t.code (ready_at s (stretch t s)))
  run_on x s e = ap (went x s) e

  pub run_past : (x : ℕ) (s : State) (key : Option Key) (ended : Bool) → s.way ≡ Past key ended →
      run t (suc x) s ≡ Some (outcome_of t.code s)
  run_past x s key ended e = ap (went x s) e

  -- a close takes one exchange, or two
  module _ (s : State) (ended : Bool) (place : ℕ) (f : Flat) where
    abbrev pub closing : Bool → State
    closing b = after t.code (record {
      purpose = if b then Sends else Closes;
      state =
          record s { flat = f; place = place; way = Ending ended };
    })

    abbrev pub closed_if : Bool → State
    closed_if b = let last = if b then after_send t.code f else f in record { flat = last; place = place; way = Past last.key ended }

    abbrev pub unended : Bool → Way
    unended b = if b then Ending ended else unless (due f.key f.uniform.count) (Ending ended)

    pub closes : (x : ℕ) (b : Bool) → is_held f.uniform.put ≡ b → run t (suc (suc x))
        (closing b) ≡ Some (outcome_of t.code (closed t.code ended place f))
    closes x true e =
        run_ended (ap unended e)
        ∙ ap (λ c. Some (outcome_of t.code (closed_if c))) (sym e)
      where
        run_ended : (closing true).way ≡ Ending ended → run t (suc (suc x))
            (closing true) ≡ Some (outcome_of t.code (record {
              flat = after_send t.code f;
              place = place;
              way = Past (after_send t.code f).key ended;
            }))
        run_ended h =
            ap (λ w. if is_over w then Some (outcome_of t.code (closing true)) else
            run t (suc x) (after t.code (ready_by t (record (closing true) { way = w }) w))) h
    closes x false e =
        ap (λ c. Some (outcome_of t.code (closed_if c))) (sym e)

  -- ---- from instructions to exchanges

  -- the run goes on at an arrival
  abbrev onward : ℕ → State → Arrival Flat → Option (Option Verdict)
  onward x s a = run t (suc x) (after t.code (ready_at s a))

  abbrev Comes : ℕ → Verdict → Type 0
  Comes k v = k ≤ t.enough → (place : ℕ) (f : Flat) → outcome_of t.code (many k (going place f)) ≡ Some v →
      (a x : ℕ) → k ≤ a → k ≤ x → (s : State) → s.way ≡ On →
      onward x s (until t.bound uniform (after_instr t.code) t.code.instructions a place f) ≡ Some (Some v)

  module _ (v : Verdict) where
    settles : (k : ℕ) → Comes k v → k ≤ t.enough → (s : State) → outcome_of t.code (many k s) ≡ Some v → (x : ℕ) → k ≤ x →
        run t (suc (suc x)) s ≡ Some (Some v)
    settles k comes enough s o x l = go s.way refl
      where
        over : (way : Way) → s.way ≡ way → (way ≡ On → ⊥) → outcome_of t.code s ≡ Some v
        over way e h = ap (outcome_of t.code) (sym (stays k s (λ on. h (sym e ∙ on)))) ∙ o

        go : (way : Way) → s.way ≡ way → run t (suc (suc x)) s ≡ Some (Some v)
        go On e = run_on (suc x) s e ∙ comes enough s.place s.flat (ap (λ z. outcome_of t.code (many k z)) (sym (on_is s e))
            ∙ o) t.enough x enough l s e
        go (Past key ended) e = run_past (suc x) s key ended e ∙ ap (λ z. Some z) (over (Past key ended) e (λ h. cc))
        go (Ending ended) e = no_outcome s (Ending ended) e (λ h. h) v (over (Ending ended) e (λ h. cc))
        go (Refused mark) e = no_outcome s (Refused mark) e (λ h. h) v (over (Refused mark) e (λ h. cc))
        go Lost e = no_outcome s Lost e (λ h. h) v (over Lost e (λ h. cc))

    module _ (k : ℕ) (comes : Comes k v) (enough : k ≤ t.enough) (x : ℕ) (l : k ≤ x) (s : State) (on : s.way ≡ On) where
      abbrev Same : State → Arrival Flat → Type 0
      Same z a = outcome_of t.code (many k z) ≡ Some v → onward (suc x) s a ≡ Some (Some v)

      -- an exchange that may decide
      exchanges : (p : Purpose) (place : ℕ) (f : Flat) →
          outcome_of t.code (many k (exchanged t.code everywhere p place f)) ≡ Some v →
          run t (suc (suc x)) (after t.code (record { purpose = p; state = record s { flat = f; place = place + 1 } })) ≡ Some (Some v)
      exchanges p place f o =
          ap (λ w. run t (suc (suc x)) (record { flat = after_exchange t.code p f; place = place + 1; way = decided p f.uniform f.key w }))
          on
          ∙ settles k comes enough (exchanged t.code everywhere p place f) o x l

      stops : (place : ℕ) (f : Flat) (stop : Stop) → Same (stopped t.code everywhere stop place f) (At stop place f)
      stops place f ToSend o = exchanges Sends place f o
      stops place f ToReply o = exchanges Replies place f o
      stops place f (ToVote d) o = exchanges (Votes d) place f o
      stops place f (ToClose ended) o =
          closes s ended place f x (is_held f.uniform.put) refl
          ∙ ap (λ z. Some z) (ap (outcome_of t.code) (sym (stays k (closed t.code ended place f) (λ on. cc))) ∙ o)

      lost : (place : ℕ) (f : Flat) → Same (lost_at place f) Nowhere
      lost place f o = no_outcome (lost_at place f) Lost refl (λ h. h) v
          (ap (outcome_of t.code) (sym (stays k (lost_at place f) (λ on. cc))) ∙ o)

    comes_on : (k : ℕ) → Comes k v
    comes_on zero enough place f o a x la lx s on = no_outcome (going place f) On refl (λ h. h) v o
    comes_on (suc k) enough place f o zero x la lx s on = absurd (omega (arith, la))
    comes_on (suc k) enough place f o (suc a) zero la lx s on = absurd (omega (arith, lx))
    comes_on (suc k) enough place f o (suc a) (suc x) la lx s on =
        let e : k ≤ t.enough = omega (arith, enough) in
        let ka : k ≤ a = omega (arith, la) in
        let kx : k ≤ x = omega (arith, lx) in
        let kx2 : k ≤ suc x = omega (arith, lx) in
        advances t.code t.bound (Same k (comes_on k) e x kx s on) place f (lost_at place f) Nowhere
        (lost k (comes_on k) e x kx s on place f)
        (stopped t.code everywhere) (λ stop n g. At stop n g) (stops k (comes_on k) e x kx s on place f)
        going (until t.bound uniform (after_instr t.code) t.code.instructions a) (λ n g h. comes_on k e n g h a (suc x) ka kx2 s on)
        (slice_get t.code.instructions place) o

pub to_exchanges : (code : SuperstepCode) (bound n : ℕ) (input : List ℤ) (v : Verdict) →
    outcome_within code bound everywhere n input ≡ Some v →
    outcome_by (record { code = code; bound = bound; enough = n }) (suc (suc n)) input ≡ Some (Some v)
to_exchanges code bound n input v o = let t : Plan = record { code = code; bound = bound; enough = n } in
    settles t v n (comes_on t v n) (omega arith) (opening input) o n (omega arith)
