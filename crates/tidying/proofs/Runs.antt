-- The run of the shorter code goes exchange by exchange with that of the longer.
use Rattle.std.proofs.Common.{◌≡◌, ℕ, zero, suc, ◌+◌, ◌≤◌, List, [], ◌∷◌, Bool, true, false, eqb, Option, Some, None, refl, sym, ap, ◌∙◌}
use Rattle.std.proofs.Common.{subst}
use Rattle.std.proofs.Common.{arith, ⊎_elim, ◌⊎◌, inl, inr}
use Rattle.std.specs.Prelude.{if◌then◌else◌, slice_get}
use Rattle.pram_values.specs.Truth.{truth, is_nonzero}
use Rattle.superstep_instructions.specs.declared.instr.Side.TheVariants.{Uniform, Private}
use Rattle.superstep_instructions.specs.declared.instr.Instr.{Instr}
use Rattle.superstep_instructions.specs.declared.instr.Instr.TheVariants.{Mark, Set, Copy, Negate, Calculate, Decide, Not, CopyUniform}
use Rattle.superstep_instructions.specs.declared.instr.Instr.TheVariants.{Index}
use Rattle.superstep_instructions.specs.declared.instr.Instr.TheVariants.{Enter, Leave, Mask, Flip, Unmask, Ask, Put, Send, Reply, Vote}
use Rattle.superstep_instructions.specs.declared.instr.Instr.TheVariants.{Print}
use Rattle.superstep_instructions.specs.declared.instr.Instr.TheVariants.{Jump, JumpIfZero, Halt}
use Rattle.superstep_instructions.specs.Code.{SuperstepCode}
use Rattle.superstep_machine.specs.Parts.{Registers, set_register, UniformPart}
use Rattle.superstep_machine.specs.Stretch.{Stop, ToSend, ToReply, ToVote, ToClose, Arrival, Nowhere, At, advance, until}
use Rattle.superstep_machine.specs.Run.{Sends, Replies, Votes, Closes, Way, On, Ending, Past, Refused, Lost, is_held, decided, is_over}
use Rattle.superstep_machine.specs.Answering.{uniform_answered, own_answered}
use Rattle.bsp_verify.specs.Control.{Leads}
use Rattle.flat_machine.specs.Flat.{Flat, after_instr, after_send, after_reply, any_active, after_vote}
use Rattle.flat_machine.specs.ByExchanges.{Plan, State, Ready, stretch, ready_at, ready_by, ready, after, next, outcome_of, run}
use Rattle.flat_machine.specs.ByExchanges.{purposes_from}
use Rattle.tidying.proofs.Behind.{rows_after, rows_left}
use Rattle.tidying.specs.Certificates.{Certificate, changed, IsKept, IsLeftOut}
use Rattle.tidying.proofs.Registers.{}
use Rattle.tidying.proofs.Results.{reads}
use Rattle.tidying.proofs.Parts.{is_step}
use Rattle.tidying.proofs.Flats.{patched, Related, related_there, registers_after, own_after, instr_same, instr_related}
use Rattle.tidying.proofs.Flats.{jump_related, fork_related, send_same, send_related, reply_related, vote_related, is_left}

-- the run after n exchanges
abbrev pub later : Plan → ℕ → State → State
later t zero s = s
later t (suc n) s = later t n (next t s)

module _ (c : Certificate) (long : SuperstepCode) (uniform private : ℕ) (left : List Instr) where
  abbrev pub short : SuperstepCode
  short = record long { uniform_registers = uniform; private_registers = private; instructions = left }

  -- the header decides what an instruction does
  same_instr : (i : Instr) (f : Flat) → after_instr short i f ≡ after_instr long i f
  same_instr (Ask Uniform d x s q) f = refl
  same_instr (Ask Private d x s q) f = refl
  same_instr (Put Uniform x s v q) f = refl
  same_instr (Put Private x s v q) f = refl
  same_instr i f = refl

  abbrev flat_uniform : Flat → UniformPart
  flat_uniform f = f.uniform

  module _ (each : (k : ℕ) (i : Instr) → slice_get long.instructions k ≡ Some i → IsKept c short k i ⊎ IsLeftOut c k i) (bound : ℕ) where
    abbrev stops : Stop → ℕ → Flat → Arrival Flat
    stops stop k f = At stop k f

    abbrev from : SuperstepCode → ℕ → ℕ → Flat → Arrival Flat
    from code n k f = until bound flat_uniform (after_instr code) code.instructions n k f

    abbrev here : SuperstepCode → (ℕ → Flat → Arrival Flat) → Option Instr → ℕ → Flat → Arrival Flat
    here code go o k f = advance bound flat_uniform (after_instr code) Nowhere stops go o k f

    -- both codes have the exchange
    abbrev IsStop : Stop → ℕ → Type 0
    IsStop ToSend k = IsKept c short k Send
    IsStop ToReply k = IsKept c short k Reply
    IsStop (ToVote d) k = IsKept c short k (Vote d)
    IsStop (ToClose ended) k = Unit {0}

    -- where the longer arrives the shorter does
    abbrev Reached : Arrival Flat → Arrival Flat → Type 0
    Reached Nowhere b = Unit {0}
    Reached (At stop k f) b =
        (r : Registers) × (rs : ℕ → Registers) × Related c (c.at k) f r rs × IsStop stop k × (b ≡ At stop (c.moved k) (patched f r rs))

    abbrev Simulates : ℕ → ℕ → Type 0
    Simulates n e = (k : ℕ) (f : Flat) (r : Registers) (rs : ℕ → Registers) → Related c (c.at k) f r rs →
        Reached (from long n k f) (from short e (c.moved k) (patched f r rs))

    module _ (n e : ℕ) (sim : Simulates n e) (k : ℕ) (f : Flat) (r : Registers) (rs : ℕ → Registers) (h : Related c (c.at k) f r rs) where
      abbrev ch : Instr → Instr
      ch = changed (c.at k).uniform (c.at k).active (c.into k) c.moved

      abbrev f' : Flat
      f' = patched f r rs

      step : (i : Instr) → IsKept c short k i → is_step i ≡ true → Leads i k (k + 1) →
          Reached (from long n (k + 1) (after_instr long i f)) (from short e (c.moved k + 1) (after_instr short (ch i) f'))
      step i kept o lead =
          let r1 = registers_after long c k f r rs h i kept.knows in
          let rs1 = own_after long c k f r rs h i kept.knows in
          subst (λ b. Reached (from long n (k + 1) (after_instr long i f)) b)
          (ap (λ m. from short e m (patched (after_instr long i f) r1 rs1)) kept.next
          ∙ ap (from short e (c.moved k + 1)) (sym (same_instr (ch i) f' ∙ instr_same long c k f r rs h i kept.knows)))
          (sim (k + 1) (after_instr long i f) r1 rs1
          (related_there c (c.at (k + 1)) (rows_after c k i) (after_instr long i f) r1 rs1 (kept.passes (k + 1) lead)
          (instr_related long c k f r rs h i kept.knows o)))

      marked : (line : ℕ) → IsKept c short k (Mark line) → (q : Bool) →
          Reached (if q then At (ToClose false) k f else from long n (k + 1) (after_instr long (Mark line) f))
          (if q then At (ToClose false) (c.moved k) f' else from short e (c.moved k + 1) (after_instr short (Mark line) f'))
      marked line kept true = (r, rs, h, tt, refl)
      marked line kept false = step (Mark line) kept refl refl

      forked : (s target : ℕ) → IsKept c short k (JumpIfZero s target) → (q : Bool) →
          Reached (if q then from long n (k + 1) f else from long n target f)
          (if q then from short e (c.moved k + 1) f' else from short e (c.moved target) f')
      forked s target kept true =
          subst (λ m. Reached (from long n (k + 1) f) (from short e m f')) kept.next
          (sim (k + 1) f r rs (related_there c (c.at (k + 1)) (rows_after c k (JumpIfZero s target)) f r rs (kept.passes (k + 1) (inr refl))
          (fork_related long c k f r rs h s target)))
      forked s target kept false =
          sim target f r rs (related_there c (c.at target) (rows_after c k (JumpIfZero s target)) f r rs (kept.passes target (inl refl))
          (fork_related long c k f r rs h s target))

      kept_reaches : (i : Instr) → IsKept c short k i →
          Reached (here long (from long n) (Some i) k f) (here short (from short e) (Some (ch i)) (c.moved k) f')
      kept_reaches (Mark line) kept = marked line kept (eqb f.uniform.count bound)
      kept_reaches Send kept = (r, rs, h, kept, refl)
      kept_reaches Reply kept = (r, rs, h, kept, refl)
      kept_reaches (Vote d) kept = (r, rs, h, kept, refl)
      kept_reaches (Jump target) kept =
          sim target f r rs (related_there c (c.at target) (rows_after c k (Jump target)) f r rs (kept.passes target refl)
          (jump_related long c k f r rs h target))
      kept_reaches (JumpIfZero s target) kept =
          subst (λ x. Reached (here long (from long n) (Some (JumpIfZero s target)) k f)
          (if is_nonzero x then from short e (c.moved k + 1) f' else from short e (c.moved target) f'))
          (sym (reads (c.number Uniform) (c.at k).uniform f.uniform.registers r h.uniform s kept.knows))
          (forked s target kept (is_nonzero (f.uniform.registers s)))
      kept_reaches Halt kept = (r, rs, h, tt, refl)
      kept_reaches (Set side d n) kept = step (Set side d n) kept refl refl
      kept_reaches (Copy side d s) kept = step (Copy side d s) kept refl refl
      kept_reaches (Negate side d s q) kept = step (Negate side d s q) kept refl refl
      kept_reaches (Calculate side o d y z q) kept = step (Calculate side o d y z q) kept refl refl
      kept_reaches (Decide side o d y z) kept = step (Decide side o d y z) kept refl refl
      kept_reaches (Not side d s) kept = step (Not side d s) kept refl refl
      kept_reaches (CopyUniform d s) kept = step (CopyUniform d s) kept refl refl
      kept_reaches (Index d) kept = step (Index d) kept refl refl
      kept_reaches (Enter y z q) kept = step (Enter y z q) kept refl refl
      kept_reaches Leave kept = step Leave kept refl refl
      kept_reaches (Mask s) kept = step (Mask s) kept refl refl
      kept_reaches Flip kept = step Flip kept refl refl
      kept_reaches Unmask kept = step Unmask kept refl refl
      kept_reaches (Ask side d z s q) kept = step (Ask side d z s q) kept refl refl
      kept_reaches (Put side z s v q) kept = step (Put side z s v q) kept refl refl
      kept_reaches (Print s) kept = step (Print s) kept refl refl

    module _ (n e : ℕ) (sim : Simulates n e) (k : ℕ) (f : Flat) (r : Registers) (rs : ℕ → Registers) (h : Related c (c.at k) f r rs) where
      left_then : (i : Instr) → IsLeftOut c k i → Reached (from long n (k + 1) (after_instr long i f)) (from short e (c.moved k) (patched
          f r rs))
      left_then i out =
          let x = is_left long c k f r rs h i out.may in
          subst (λ b. Reached (from long n (k + 1) (after_instr long i f)) b)
          (λ j. from short e (out.next j) (sym x.0 j))
          (sim (k + 1) (after_instr long i f) r rs
          (related_there c (c.at (k + 1)) (rows_left c k i) (after_instr long i f) r rs out.passes x.1))

      no : false ≡ true → ⊥
      no q = cc

      left_reaches : (i : Instr) → IsLeftOut c k i →
          Reached (here long (from long n) (Some i) k f) (from short e (c.moved k) (patched f r rs))
      left_reaches (Set side d x) out = left_then (Set side d x) out
      left_reaches (Copy side d s) out = left_then (Copy side d s) out
      left_reaches (Mark line) out = absurd (no out.may)
      left_reaches (Negate side d s q) out = absurd (no out.may)
      left_reaches (Calculate side o d y z q) out = absurd (no out.may)
      left_reaches (Decide side o d y z) out = absurd (no out.may)
      left_reaches (Not side d s) out = absurd (no out.may)
      left_reaches (CopyUniform d s) out = absurd (no out.may)
      left_reaches (Index d) out = absurd (no out.may)
      left_reaches (Enter y z q) out = absurd (no out.may)
      left_reaches Leave out = absurd (no out.may)
      left_reaches (Mask s) out = absurd (no out.may)
      left_reaches Flip out = absurd (no out.may)
      left_reaches Unmask out = absurd (no out.may)
      left_reaches (Ask side d z s q) out = absurd (no out.may)
      left_reaches (Put side z s v q) out = absurd (no out.may)
      left_reaches (Print s) out = absurd (no out.may)
      left_reaches Send out = absurd (no out.may)
      left_reaches Reply out = absurd (no out.may)
      left_reaches (Vote d) out = absurd (no out.may)
      left_reaches (Jump t) out = absurd (no out.may)
      left_reaches (JumpIfZero s t) out = absurd (no out.may)
      left_reaches Halt out = absurd (no out.may)

    pub simulates : (n e : ℕ) → n ≤ e → Simulates n e
    simulates zero e l k f r rs h = tt
    simulates (suc n) zero l k f r rs h = absurd (omega (arith, l))
    simulates (suc n) (suc e) l k f r rs h =
        go (simulates n e (omega (arith, l))) (simulates n (suc e) (omega (arith, l))) (slice_get long.instructions k) refl
      where
        go : Simulates n e → Simulates n (suc e) → (o : Option Instr) → slice_get long.instructions k ≡ o →
            Reached (here long (from long n) o k f) (from short (suc e) (c.moved k) (patched f r rs))
        go sim more None is = tt
        go sim more (Some i) is = ⊎_elim
            (λ kept. subst (λ o. Reached (here long (from long n) (Some i) k f) (here short (from short e) o (c.moved k) (patched f r rs)))
            (sym kept.is) (kept_reaches n e sim k f r rs h i kept))
            (λ out. left_reaches n (suc e) more k f r rs h i out)
            (each k i is)

    -- ---- one exchange

    module _ (n e : ℕ) (more : n ≤ e) where
      abbrev pub one : Plan
      one = record { code = long; bound = bound; enough = n }

      abbrev pub other : Plan
      other = record { code = short; bound = bound; enough = e }

      abbrev pub shown : State → Registers → (ℕ → Registers) → State
      shown s r rs = record { flat = patched s.flat r rs; place = c.moved s.place; way = s.way }

      -- the shorter's run is the longer's with other registers
      pub record Goes (q q' : Ready) : Type 0 where
        pub registers : Registers
        pub own : ℕ → Registers
        pub related : Related c (c.at (after long q).place) (after long q).flat registers own
        pub same : after short q' ≡ shown (after long q) registers own
        pub output : q'.state.flat.uniform.output ≡ q.state.flat.uniform.output
        pub purpose : q'.purpose ≡ q.purpose

      close_related : (k : ℕ) (f : Flat) (r : Registers) (rs : ℕ → Registers) → Related c (c.at k) f r rs →
          Related c (c.at k) (after_send long f) r rs
      close_related k f r rs h = record {
        uniform = h.uniform;
        own = λ v. record { active = (h.own v).active; idle = (h.own v).idle; all = (h.own v).all };
        asks = tt;
        awaited = h.asks;
      }

      send_alike : (f : Flat) → after_send short f ≡ after_send long f
      send_alike f = refl

      abbrev sent_to : (s : State) (k : ℕ) (f : Flat) (r : Registers) (rs : ℕ → Registers) (ended : Bool) → Type 0
      sent_to s k f r rs ended = Goes (ready_at s (At (ToClose ended) k f)) (ready_at s (At (ToClose ended) k f))

      module _ (s : State) (r0 : Registers) (rs0 : ℕ → Registers) where
        abbrev ready_if : Bool → Bool → Flat → ℕ → Ready
        ready_if ended q g p = record { purpose = if q then Sends else Closes; state = record { flat = g; place = p; way = Ending ended } }

        arrived : (a a' : Arrival Flat) → Reached a a' → ((after long (ready_at s a)).way ≡ Lost → ⊥) →
            Goes (ready_at s a) (ready_at (shown s r0 rs0) a')
        arrived Nowhere a' reached lost = absurd (lost refl)
        arrived (At ToSend k f) a' (r, rs, h, kept, is) lost =
            subst (λ x. Goes (ready_at s (At ToSend k f)) (ready_at (shown s r0 rs0) x)) (sym is) (record {
              registers = r;
              own = rs;
              related = related_there c (c.at (k + 1)) (rows_after c k Send) (after_send long f) r rs (kept.passes (k + 1) refl)
                  (send_related long c k f r rs h);
              same = λ j. record {
                flat = (send_alike (patched f r rs) ∙ send_same long c k f r rs h) j;
                place = sym kept.next j;
                way = decided Sends f.uniform f.key s.way;
              };
              output = refl;
              purpose = refl;
            })
        arrived (At ToReply k f) a' (r, rs, h, kept, is) lost =
            subst (λ x. Goes (ready_at s (At ToReply k f)) (ready_at (shown s r0 rs0) x)) (sym is) (record {
              registers = (uniform_answered (λ x y. f.memory y) (patched f r rs).uniform).registers;
              own = λ v. (own_answered (λ x y. f.memory y) f.uniform.awaited ((patched f r rs).own v)).registers;
              related = related_there c (c.at (k + 1)) (rows_after c k Reply) (after_reply f)
                  (uniform_answered (λ x y. f.memory y) (patched f r rs).uniform).registers
                  (λ v. (own_answered (λ x y. f.memory y) f.uniform.awaited ((patched f r rs).own v)).registers)
                  (kept.passes (k + 1) refl) (reply_related long c k f r rs h);
              same = λ j. record {
                flat = after_reply (patched f r rs);
                place = sym kept.next j;
                way = decided Replies f.uniform f.key s.way;
              };
              output = refl;
              purpose = refl;
            })
        arrived (At (ToVote d) k f) a' (r, rs, h, kept, is) lost =
            subst (λ x. Goes (ready_at s (At (ToVote d) k f)) (ready_at (shown s r0 rs0) x)) (sym is) (record {
              registers = set_register d (truth (any_active f)) r;
              own = rs;
              related = related_there c (c.at (k + 1)) (rows_after c k (Vote d)) (after_vote d f) (set_register d (truth (any_active f))
                  r) rs
                  (kept.passes (k + 1) refl) (vote_related long c k f r rs h d);
              same = λ j. record {
                flat = after_vote d (patched f r rs);
                place = sym kept.next j;
                way = decided (Votes d) f.uniform f.key s.way;
              };
              output = refl;
              purpose = refl;
            })
        arrived (At (ToClose ended) k f) a' (r, rs, h, kept, is) lost =
            subst (λ x. Goes (ready_at s (At (ToClose ended) k f)) (ready_at (shown s r0 rs0) x)) (sym is) (go (is_held f.uniform.put))
          where
            go : (q : Bool) → Goes (ready_if ended q f k) (ready_if ended q (patched f r rs) (c.moved k))
            go true = record {
              registers = r;
              own = rs;
              related = close_related k f r rs h;
              same = λ j. record {
                flat = (send_alike (patched f r rs) ∙ send_same long c k f r rs h) j;
                place = c.moved k;
                way = decided Sends f.uniform f.key (Ending ended);
              };
              output = refl;
              purpose = refl;
            }
            go false = record { registers = r; own = rs; related = h; same = refl; output = refl; purpose = refl }

      pub goes : (s : State) (r : Registers) (rs : ℕ → Registers) → Related c (c.at s.place) s.flat r rs → ((next one s).way ≡ Lost → ⊥) →
          Goes (ready one s) (ready other (shown s r rs))
      goes s r rs h lost = by_way s.way lost
        where
          by_way : (way : Way) → ((after long (ready_by one s way)).way ≡ Lost → ⊥) →
              Goes (ready_by one s way) (ready_by other (shown s r rs) way)
          by_way On lost = arrived s r rs (stretch one s) (stretch other (shown s r rs)) (simulates n e more s.place s.flat r rs h) lost
          by_way (Ending ended) lost = record { registers = r; own = rs; related = h; same = refl; output = refl; purpose = refl }
          by_way (Past key ended) lost = record { registers = r; own = rs; related = h; same = refl; output = refl; purpose = refl }
          by_way (Refused mark) lost = record { registers = r; own = rs; related = h; same = refl; output = refl; purpose = refl }
          by_way Lost lost = record { registers = r; own = rs; related = h; same = refl; output = refl; purpose = refl }

      -- ---- runs

      -- it's never lost
      abbrev pub Finds : State → Type 0
      Finds s = (m : ℕ) → (later one m s).way ≡ Lost → ⊥

      pub record Stands (m : ℕ) (s s' : State) : Type 0 where
        pub registers : Registers
        pub own : ℕ → Registers
        pub related : Related c (c.at (later one m s).place) (later one m s).flat registers own
        pub same : later other m s' ≡ shown (later one m s) registers own

      pub stands : (m : ℕ) (s : State) (r : Registers) (rs : ℕ → Registers) → Related c (c.at s.place) s.flat r rs → Finds s →
          Stands m s (shown s r rs)
      stands zero s r rs h finds = record { registers = r; own = rs; related = h; same = refl }
      stands (suc m) s r rs h finds =
          let g = goes s r rs h (finds 1) in
          let x = stands m (next one s) g.registers g.own g.related (λ p. finds (suc p)) in
          record { registers = x.registers; own = x.own; related = x.related; same = ap (later other m) g.same ∙ x.same }

      pub runs_same : (m : ℕ) (s : State) (r : Registers) (rs : ℕ → Registers) → Related c (c.at s.place) s.flat r rs → Finds s →
          run other m (shown s r rs) ≡ run one m s
      runs_same zero s r rs h finds = refl
      runs_same (suc m) s r rs h finds =
          let g = goes s r rs h (finds 1) in
          ap (λ x. if is_over s.way then Some (outcome_of long s) else run other m x) g.same
          ∙ ap (λ x. if is_over s.way then Some (outcome_of long s) else x)
          (runs_same m (next one s) g.registers g.own g.related (λ p. finds (suc p)))

      pub purposes_same : (m : ℕ) (s : State) (r : Registers) (rs : ℕ → Registers) → Related c (c.at s.place) s.flat r rs → Finds s →
          purposes_from other m (shown s r rs) ≡ purposes_from one m s
      purposes_same zero s r rs h finds = refl
      purposes_same (suc m) s r rs h finds =
          let g = goes s r rs h (finds 1) in
          (λ j. if is_over s.way then [] else g.purpose j ∷ purposes_from other m (g.same j))
          ∙ ap (λ xs. if is_over s.way then [] else (ready one s).purpose ∷ xs)
          (purposes_same m (next one s) g.registers g.own g.related (λ p. finds (suc p)))
