-- What the flat machine's run exchange by exchange comes to, its run instruction by instruction does, by exchanges of the same lines.
use Rattle.std.proofs.Common.{◌≡◌, ℕ, zero, suc, ◌+◌, List, [], ◌∷◌, ◌++◌, Bool, true, false, Option, Some, None, ℤ, refl, sym, ap, ◌∙◌}
use Rattle.std.proofs.Common.{subst, ◌*◌, length}
use Rattle.std.specs.Prelude.{if◌then◌else◌, slice_get}
use Rattle.std.proofs.lemmas.List.{append-nil}
use Rattle.write_rules.specs.Verdict.{Verdict}
use Rattle.superstep_instructions.specs.declared.instr.Instr.{Instr}
use Rattle.superstep_machine.specs.Stretch.{ToSend, ToReply, ToVote, ToClose, Arrival, Nowhere, At, advance, until}
use Rattle.superstep_machine.specs.Run.{Purpose, Sends, Replies, Votes, Closes, Way, On, Ending, Past, Refused, Lost, is_held, is_over}
use Rattle.superstep_machine.specs.Run.{decided}
use Rattle.bsp_verify.proofs.RunLemmas.{decided_same}
use Rattle.flat_machine.specs.Flat.{Flat, after_instr}
use Rattle.flat_machine.specs.ByExchanges.{Plan, State, stretch, ready_at, ready, ready_by, after, after_exchange, run}
use Rattle.flat_machine.specs.ByExchanges.{outcome_of, outcome_by, opening}
use Rattle.flat_machine.specs.ByInstructions.{stopped, exchanged, closed, going, everywhere}
use Rattle.flat_machine.proofs.Stepping.{steps_more}
use Rattle.exchange_lines.specs.Lines.{flat_lines_by, flat_lines_from, lines_at, lines_within}
use Rattle.exchange_lines.specs.Lines.{lines_by}
use Rattle.exchange_lines.specs.Laws.{LinesAreFlat}
use Rattle.exchange_lines.proofs.LineLists.{all_told, sum_within}
use Rattle.exchange_lines.proofs.Workers.{lines_by_same}
use Rattle.superstep_instructions.specs.Code.{SuperstepCode}
use Rattle.address_map.specs.Lawful.{Shape}
use Rattle.superstep_machine.specs.Run as workers
use Rattle.flat_machine.specs.Flatness.{IsMapFor, plan}
use Rattle.flat_machine.specs.ByInstructions.{outcome_within, steps}
use Rattle.flat_machine.proofs.Laws.{outcomes_are_same}
use Rattle.flat_machine.proofs.Arrival.{arrives}
use Rattle.flat_machine.proofs.Stepping.{outcome_is_past}
use Rattle.flat_machine.proofs.Bridge.{uniform, advances, many, lost_at, no_outcome, on_is, run_on, run_past, went, closing, closed_if}
use Rattle.flat_machine.proofs.Bridge.{unended, closes}
use Rattle.pram_model.proofs.Truths.{unsome}

module _ (t : Plan) where
  -- the lines of the exchanges of n instructions
  abbrev made : ℕ → State → List ℕ
  made n s = lines_within t.code t.bound n s

  -- ---- stretches

  -- what a stretch arrives at is so many instructions on, where exchanges have these lines
  abbrev Reached : State × List ℕ → Arrival Flat → Type 0
  Reached (z, es) Nowhere = Unit {0}
  Reached (z, es) (At stop place f) = (n : ℕ) × (many t n z ≡ stopped t.code everywhere stop place f)
      × (es ++ made n z ≡ lines_at stop f.uniform)

  abbrev from : ℕ → ℕ → Flat → Arrival Flat
  from a place f = until t.bound uniform (after_instr t.code) t.code.instructions a place f

  module _ (place : ℕ) (f : Flat) where
    -- an instruction's state and its lines at once
    abbrev both : Option Instr → State × List ℕ
    both o =
        advance t.bound uniform (after_instr t.code) (
          lost_at t place f,
          [],
        ) (λ stop k g. (stopped t.code everywhere stop k g, lines_at stop g.uniform))
        (λ k g. (going k g, [])) o place f

    abbrev lines_there : Option Instr → List ℕ
    lines_there o = advance t.bound uniform (after_instr t.code) [] (λ stop k g. lines_at stop g.uniform) (λ k g. []) o place f

    abbrev led : Option Instr → State
    led o = advance t.bound uniform (after_instr t.code) (lost_at t place f) (stopped t.code everywhere) going o place f

    states_are : (o : Option Instr) → (both o).0 ≡ led o
    states_are o =
        advances t.code t.bound (λ (x : State × List ℕ) (z : State). x.0 ≡ z) place f (lost_at t place f, []) (lost_at t place f)
        refl
        (λ stop k g. (stopped t.code everywhere stop k g, lines_at stop g.uniform)) (stopped t.code everywhere) (λ stop. refl)
        (λ k g. (going k g, [])) going (λ k g. refl) o

    lines_are : (o : Option Instr) → (both o).1 ≡ lines_there o
    lines_are o =
        advances t.code t.bound (λ (x : State × List ℕ) (es : List ℕ). x.1 ≡ es) place f (lost_at t place f, []) [] refl
        (λ stop k g. (stopped t.code everywhere stop k g, lines_at stop g.uniform)) (λ stop k g. lines_at stop g.uniform)
        (λ stop. refl)
        (λ k g. (going k g, [])) (λ k g. []) (λ k g. refl) o

    abbrev instr : Option Instr
    instr = slice_get t.code.instructions place

    -- with the instruction before
    earlier : (a : Arrival Flat) → Reached (both instr) a → Reached (going place f, []) a
    earlier Nowhere h = tt
    earlier (At stop k g) h = (
      suc h.0,
      ap (many t h.0) (sym (states_are instr)) ∙ h.1,
      ap (λ es. es ++ made h.0 (led instr)) (sym (lines_are instr))
          ∙ ap (λ (z : State). (both instr).1 ++ made h.0 z) (sym (states_are instr)) ∙ h.2,
    )

  reaches : (a place : ℕ) (f : Flat) → Reached (going place f, []) (from a place f)
  reaches zero place f = tt
  reaches (suc a) place f =
      earlier place f (from (suc a) place f)
      (advances t.code t.bound Reached place f (lost_at t place f, []) Nowhere tt
      (λ stop k g. (stopped t.code everywhere stop k g, lines_at stop g.uniform)) (λ stop k g. At stop k g)
      (λ stop. (0, refl, append-nil (lines_at stop f.uniform)))
      (λ k g. (going k g, [])) (from a) (reaches a) (instr place f))

  -- ---- whole runs

  module _ (v : Verdict) where
    -- after n instructions the run is over, and their exchanges have these lines
    pub record Returns (s : State) (lines : List ℕ) : Type 0 where
      pub instructions : ℕ
      pub ends : outcome_of t.code (many t instructions s) ≡ Some v
      pub lists : made instructions s ≡ lines

    -- behind some instructions
    later : (n : ℕ) (s z : State) (first rest : List ℕ) → many t n s ≡ z → made n s ≡ first → Returns z rest →
        Returns s (first ++ rest)
    later n s z first rest e h r = record {
      instructions = n + r.instructions;
      ends = ap (outcome_of t.code) (steps_more t.code t.bound everywhere n r.instructions s ∙ ap (many t r.instructions) e) ∙ r.ends;
      lists =
          sum_within t.code t.bound n r.instructions (n + r.instructions) refl s
          ∙ ap (λ ls. ls ++ made r.instructions (many t n s)) h
          ∙ ap (λ ls. first ++ ls) (ap (made r.instructions) e ∙ r.lists);
    }

    -- a close is over by one exchange or by two
    module _ (s : State) (ended : Bool) (place : ℕ) (f : Flat) where
      closes_back : (x : ℕ) (b : Bool) → is_held f.uniform.put ≡ b → run t x (closing t s ended place f b) ≡ Some (Some v) →
          outcome_of t.code (closed t.code ended place f) ≡ Some v
      closes_back zero b e h = cc
      closes_back (suc zero) true e h =
          let w : (closing t s ended place f true).way ≡ Ending ended = ap (unended t s ended place f) e in
          let z : None ≡ Some (Some v) =
          sym (ap (λ y. if is_over y then Some (outcome_of t.code (closing t s ended place f true)) else None) w) ∙ h in
          cc
      closes_back (suc zero) false e h = ap (λ c. outcome_of t.code (closed_if t s ended place f c)) e ∙ unsome _ (Some v) h
      closes_back (suc (suc x)) b e h = unsome _ (Some v) (sym (closes t s ended place f x b e) ∙ h)

      over_makes_none : (x : ℕ) (z : State) (key : Option _) (b : Bool) → z.way ≡ Past key b → flat_lines_from t x z ≡ []
      over_makes_none zero z key b e = refl
      over_makes_none (suc x) z key b e =
          ap (λ way. if is_over way then [] else (ready t z).state.flat.uniform.line ∷ flat_lines_from t x (after t.code (ready t z))) e

      -- what comes behind a close
      closes_by : (x : ℕ) (b : Bool) → is_held f.uniform.put ≡ b → run t x (closing t s ended place f b) ≡ Some (Some v) →
          (if b then f.uniform.line ∷ f.uniform.line ∷ [] else f.uniform.line ∷ [])
          ≡ f.uniform.line ∷ flat_lines_from t x (closing t s ended place f b)
      closes_by zero b e h = cc
      closes_by (suc x) true e h =
          let w : (closing t s ended place f true).way ≡ Ending ended = ap (unended t s ended place f) e in
          ap (λ ls. f.uniform.line ∷ ls)
          (sym (ap (λ way. if is_over way then [] else (ready_by t (closing t s ended place f true) way).state.flat.uniform.line
          ∷ flat_lines_from t x (after t.code (ready_by t (record (closing t s ended place f true) { way = way }) way))) w
          ∙ ap (λ ls. f.uniform.line ∷ ls) (over_makes_none x
          (after t.code (record { purpose = Closes; state = record (closing t s ended place f true) { way = Ending ended } })) _ ended
          refl)))
      closes_by (suc x) false e h =
          ap (λ ls. f.uniform.line ∷ ls) (sym (over_makes_none (suc x) (closing t s ended place f false) _ ended refl))

    not_ending : (p : Purpose) (f : Flat) (ended : Bool) → decided p f.uniform f.key On ≡ Ending ended → ⊥
    not_ending p f ended h = let z : On ≡ Ending ended = decided_same (Ending ended) (λ key b e. cc) p f.uniform f.key On h in cc

    pub lost_ends : {A : Type 0} (x : ℕ) (s : State) → s.way ≡ Lost → run t x s ≡ Some (Some v) → A
    lost_ends zero s e h = cc
    lost_ends (suc x) s e h = no_outcome t s Lost e (λ h. h) v (unsome _ (Some v) (sym (ap (went t x s) e) ∙ h))

    module _ (x : ℕ) (rest : (s : State) → ((ended : Bool) → s.way ≡ Ending ended → ⊥) → run t x s ≡ Some (Some v) →
        Returns s (flat_lines_from t x s))
        (s : State) (on : s.way ≡ On) where
      -- an exchange that may decide
      abbrev arrived : Purpose → ℕ → Flat → State
      arrived p place f = after t.code (record { purpose = p; state = record s { flat = f; place = place + 1 } })

      arrived_is : (p : Purpose) (place : ℕ) (f : Flat) → arrived p place f ≡ exchanged t.code everywhere p place f
      arrived_is p place f = ap (λ w. record { flat = after_exchange t.code p f; place = place + 1; way = decided p f.uniform f.key w }) on

      exchange_returns : (p : Purpose) (place : ℕ) (f : Flat) (n : ℕ) →
          many t n (going s.place s.flat) ≡ exchanged t.code everywhere p place f →
          made n (going s.place s.flat) ≡ f.uniform.line ∷ [] → run t x (arrived p place f) ≡ Some (Some v) →
          Returns s (f.uniform.line ∷ flat_lines_from t x (arrived p place f))
      exchange_returns p place f n e m h =
          let z = exchanged t.code everywhere p place f in
          subst (λ (y : State). Returns s (f.uniform.line ∷ flat_lines_from t x y)) (sym (arrived_is p place f))
          (later n s z (f.uniform.line ∷ []) (flat_lines_from t x z) (ap (many t n) (on_is t s on) ∙ e) (ap (made n) (on_is t s on) ∙ m)
          (rest z (not_ending p f) (ap (run t x) (sym (arrived_is p place f)) ∙ h)))

      arrival_returns : (a : Arrival Flat) → Reached (going s.place s.flat, []) a → run t x (after t.code (ready_at s a)) ≡ Some (Some v) →
          Returns s ((ready_at s a).state.flat.uniform.line ∷ flat_lines_from t x (after t.code (ready_at s a)))
      arrival_returns Nowhere r h = lost_ends x (after t.code (ready_at s Nowhere)) refl h
      arrival_returns (At ToSend place f) r h = exchange_returns Sends place f r.0 r.1 r.2 h
      arrival_returns (At ToReply place f) r h = exchange_returns Replies place f r.0 r.1 r.2 h
      arrival_returns (At (ToVote d) place f) r h = exchange_returns (Votes d) place f r.0 r.1 r.2 h
      arrival_returns (At (ToClose ended) place f) r h = record {
        instructions = r.0;
        ends = ap (λ (z : State). outcome_of t.code (many t r.0 z)) (on_is t s on) ∙ ap (outcome_of t.code) r.1
            ∙ closes_back s ended place f x (is_held f.uniform.put) refl h;
        lists = (ap (made r.0) (on_is t s on) ∙ r.2) ∙ closes_by s ended place f x (is_held f.uniform.put) refl h;
      }

    -- the lines of a run of one exchange more, by its way
    abbrev lines_if : ℕ → State → Way → List ℕ
    lines_if x s way = if is_over way then [] else (ready_by t s way).state.flat.uniform.line ∷ flat_lines_from t x
        (after t.code (ready_by t s way))

    returns : (x : ℕ) (s : State) → ((ended : Bool) → s.way ≡ Ending ended → ⊥) → run t x s ≡ Some (Some v) →
        Returns s (flat_lines_from t x s)
    returns zero s unended h = cc
    returns (suc x) s unended h = go (returns x) s.way refl
      where
        go : ((z : State) → ((ended : Bool) → z.way ≡ Ending ended → ⊥) → run t x z ≡ Some (Some v) →
            Returns z (flat_lines_from t x z)) → (way : Way) → s.way ≡ way →
            Returns s (lines_if x s s.way)
        go rest On e =
            subst (λ (way : Way). Returns s (lines_if x s way)) (sym e)
            (arrival_returns x rest s e (stretch t s) (reaches t.enough s.place s.flat) (sym (run_on t x s e) ∙ h))
        go rest (Ending ended) e = absurd (unended ended e)
        go rest (Past key ended) e =
            subst (λ (way : Way). Returns s (lines_if x s way)) (sym e)
            (record { instructions = 0; ends = unsome _ (Some v) (sym (run_past t x s key ended e) ∙ h); lists = refl })
        go rest (Refused mark) e = no_outcome t s (Refused mark) e (λ h. h) v (unsome _ (Some v) (sym (ap (went t x s) e) ∙ h))
        go rest Lost e = lost_ends (suc x) s e h

to_instructions : (t : Plan) (x : ℕ) (input : List ℤ) (v : Verdict) → outcome_by t x input ≡ Some (Some v) →
    Returns t v (opening input) (flat_lines_by t x input)
to_instructions t x input v h = returns t v x (opening input) (λ ended e. cc) h

-- ---- the law

-- the lines of the workers of a map are those of any number of instructions that comes to a verdict
lines_are_one : (code : SuperstepCode) (map : Shape) → IsMapFor code map → (input : List ℤ) (bound enough most : ℕ)
    (verdict other : Verdict) →
    workers.outcome_by (workers.setting code map bound enough) most input ≡ Some (Some verdict) → (n : ℕ) →
    outcome_within code bound everywhere n input ≡ Some other →
    lines_by (workers.setting code map bound enough) most input ≡ lines_within code bound n (opening input)
lines_are_one code map room input bound enough most verdict other ends n e =
    let t = workers.setting code map bound enough in
    let s = opening input in
    let r = to_instructions (plan t) most input verdict (sym (outcomes_are_same t room most input) ∙ ends) in
    lines_by_same t room most input ∙ sym r.lists
    ∙ all_told code bound r.instructions n s (outcome_is_past code (steps code bound everywhere r.instructions s) verdict r.ends)
    (outcome_is_past code (steps code bound everywhere n s) other e)

pub lines_are_flat : LinesAreFlat
lines_are_flat code formed input bound map room enough most verdict ends =
    let n = (bound + 1) * length code.instructions in
    let a = arrives code formed bound everywhere input in
    lines_are_one code map room input bound enough most verdict a.0 ends n a.1
