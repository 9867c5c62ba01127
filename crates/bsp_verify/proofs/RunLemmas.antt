-- A run goes along a path of control, and the state that the path gives describes what its workers hold and await.
use Rattle.std.proofs.Common.{◌≡◌, ℕ, zero, suc, ◌+◌, List, [], ◌∷◌, length, Bool, true, false, not, eqb, Option, Some, None, ℤ, refl, sym}
use Rattle.std.proofs.Common.{ap, ◌∙◌, subst, ⊎_elim, ◌⊎◌, inl, inr}
use Rattle.std.specs.Prelude.{if◌then◌else◌, ◌&&◌, nat_lt, slice_get}
use Rattle.std.proofs.lemmas.List.{nil_from_length}
use Rattle.std.proofs.lemmas.List.{length-append}
use Rattle.pram_values.specs.Truth.{is_nonzero}
use Rattle.superstep_instructions.specs.declared.instr.Side.TheVariants.{Uniform, Private}
use Rattle.superstep_instructions.specs.declared.instr.Instr.{Instr}
use Rattle.superstep_instructions.specs.declared.instr.Instr.TheVariants.{Mark, Ask, Put, Send, Reply, Vote, Jump, JumpIfZero, Halt}
use Rattle.superstep_machine.specs.declared.key.Key.{Key}
use Rattle.superstep_machine.specs.declared.mark.HeaderMark.{HeaderMark}
use Rattle.superstep_machine.specs.declared.mark.HeaderMark.TheVariants.{Clear, OutOfMemory, OutOfReserve}
use Rattle.superstep_instructions.specs.Code.{SuperstepCode}
use Rattle.superstep_machine.specs.Setting.{Setting, workers}
use Rattle.superstep_machine.specs.Parts.{UniformPart, Moment}
use Rattle.superstep_machine.specs.Steps.{on_uniform}
use Rattle.superstep_machine.specs.Words.{Message}
use Rattle.superstep_machine.specs.Worker.{Worker, after_instr}
use Rattle.superstep_machine.specs.Sending.{uniform_sent}
use Rattle.superstep_machine.specs.Stretch.{Stop, ToSend, ToReply, ToVote, ToClose, Arrival, Nowhere, At, advance, until}
use Rattle.superstep_machine.specs.Machine.{phases, phase, column}
use Rattle.superstep_machine.specs.Run as machine
use Rattle.bsp_verify.specs.declared.state.State.{State}
use Rattle.bsp_verify.specs.States.{opening, after}
use Rattle.bsp_verify.specs.Control.{Leads}
use Rattle.bsp_verify.specs.Judging.{fits_exchange, IsAllowed}
use Rattle.bsp_verify.specs.WellFormed.{IsWellFormed}
use Rattle.bsp_verify.specs.Paths.{Point, Comes, IsWithin}
use Rattle.bsp_verify.specs.Runs.{worker_after, IsOnPath, MayExchange, RunsAreSound}
use Rattle.superstep_machine.specs.Sides.{HaveOneSide}
use Rattle.bsp_verify.specs.Moments.{walked, DescribesWorker, IsDescribed, MomentsAreSound, ReadsHaveOneSide, SentReadsHaveOneSide}
use Rattle.bsp_verify.proofs.PathLemmas.{is_zero, paths_sound, not_both}
use Rattle.bsp_verify.proofs.WorkerLemmas.{one_side, none_came, Works, acts_worker, sent_worker, replied_worker, voted_worker}
use Rattle.bsp_verify.proofs.WorkerLemmas.{opening_worker}
use Rattle.pram_model.proofs.Truths.{both}
use Rattle.std.proofs.lemmas.Bool.{not-true}

-- the state says what is held and awaited; answers are awaited alone
pub record Describes (s : State) (u : UniformPart) : Type 0 where
  pub asks : length u.asks ≡ s.asks
  pub put : machine.is_held u.put ≡ s.put
  pub awaited : nat_lt 0 (length u.awaited) ≡ s.awaits
  pub alone : s.awaits ≡ true → (s.asks ≡ 0) × (s.put ≡ false)

-- ---- instructions

-- it makes no exchange and doesn't jump
abbrev pub Acts : Instr → Type 0
Acts Send = ⊥
Acts Reply = ⊥
Acts _ = Unit {0}

pub acts : (code : SuperstepCode) (i : Instr) (s : State) (u : UniformPart) → Acts i → s.awaits ≡ false → Describes s u →
    Describes (after i s) (on_uniform code i u)
acts code Send s u a f d = absurd a
acts code Reply s u a f d = absurd a
acts code (Ask Uniform x c r q) s u a f d = record {
  asks = length-append u.asks _ ∙ ap (λ n. n + 1) d.asks;
  put = d.put;
  awaited =
      d.awaited;
  alone = λ h. not_both s.awaits f h;
}
acts code (Ask Private x c r q) s u a f d = record {
  asks = length-append u.asks _ ∙ ap (λ n. n + 1) d.asks;
  put = d.put;
  awaited =
      d.awaited;
  alone = λ h. not_both s.awaits f h;
}
acts code (Put side c r v q) s u a f d = record { asks = d.asks; put = refl; awaited = d.awaited; alone = λ h. not_both s.awaits f h }
acts code i s u a f d = record { asks = d.asks; put = d.put; awaited = d.awaited; alone = d.alone }

none_awaited : (a b : Bool) → (not a && b) ≡ true → a ≡ false
none_awaited false b h = refl
none_awaited true b h = cc

-- with answers awaited there is nothing but a reply
pub no_answers : (i : Instr) (s : State) → (i ≡ Reply → ⊥) → fits_exchange i s ≡ true → s.awaits ≡ false
no_answers Reply s n h = absurd (n refl)
no_answers Send s n h = not-true s.awaits h
no_answers i s n h = none_awaited s.awaits _ h

-- ---- exchanges

pub sent : (s : State) (u : UniformPart) → Describes s u → Describes (after Send s) (uniform_sent u)
sent s u d = record { asks = refl; put = refl; awaited = ap (nat_lt 0) d.asks; alone = λ h. (refl, refl) }

pub no_put : (o : Option Moment) → machine.is_held o ≡ false → o ≡ None
no_put None h = refl
no_put (Some m) h = cc

some_came : {A : Type 0} (xs : List A) → nat_lt 0 (length xs) ≡ true → xs ≡ [] → ⊥
some_came [] h e = cc
some_came (x ∷ xs) h e = cc

-- a verdict either is told, or leaves a run as it was
pub unless_same : (z : machine.Way) → ((key : Option Key) (ended : Bool) → machine.Past key ended ≡ z → ⊥) →
    (way : machine.Way) (key : Option Key) → machine.unless key way ≡ z → way ≡ z
unless_same z past way None e = e
unless_same z past way (Some key) e = absurd (past (Some key) false e)

pub decided_same : (z : machine.Way) → ((key : Option Key) (ended : Bool) → machine.Past key ended ≡ z → ⊥) →
    (p : machine.Purpose) (u : UniformPart) (key : Option Key) (way : machine.Way) → machine.decided p u key way ≡ z → way ≡ z
decided_same z past machine.Sends u key way h = go (machine.is_held u.put) h
  where
    go : (b : Bool) → (if b then way else machine.unless (machine.due key u.count) way) ≡ z → way ≡ z
    go true e = e
    go false e = unless_same z past way (machine.due key u.count) e
decided_same z past machine.Replies u key way h = unless_same z past way (machine.due key u.count) h
decided_same z past (machine.Votes v) u key way h = unless_same z past way (machine.due key u.count) h
decided_same z past machine.Closes u key (machine.Ending e) h = absurd (past key e h)
decided_same z past machine.Closes u key way h = h

-- where a stretch stops by an instruction
abbrev StopsBy : Stop → Instr → Type 0
StopsBy ToSend i = i ≡ Send
StopsBy ToReply i = i ≡ Reply
StopsBy (ToVote d) i = i ≡ Vote d
StopsBy (ToClose ended) i = (i ≡ Halt) ⊎ ((line : ℕ) × (i ≡ Mark line))

-- what an instruction that may stand there finds
module _ (s : State) (u : UniformPart) (d : Describes s u) where
  nothing_awaited : s.awaits ≡ false → u.awaited ≡ []
  nothing_awaited h = none_came u.awaited (d.awaited ∙ h)

  no_reads : (i : Instr) → fits_exchange i s ≡ (not s.awaits && eqb s.asks 0) → fits_exchange i s ≡ true → (u.awaited ≡ []) × (u.asks ≡ [])
  no_reads i e h = let b = both (not s.awaits) (eqb s.asks 0) (sym e ∙ h) in
      (nothing_awaited (not-true s.awaits b.0), nil_from_length u.asks (d.asks ∙ is_zero s.asks b.1))

  may : (stop : Stop) (i : Instr) → StopsBy stop i → fits_exchange i s ≡ true → MayExchange stop u
  may ToSend i e h = nothing_awaited (not-true s.awaits (subst (λ (j : Instr). fits_exchange j s ≡ true) e h))
  may ToReply i e h =
      let a = subst (λ (j : Instr). fits_exchange j s ≡ true) e h in
      let b = d.alone a in
      (some_came u.awaited (d.awaited ∙ a), nil_from_length u.asks (d.asks ∙ b.0), no_put u.put (d.put ∙ b.1))
  may (ToVote x) i e h =
      let a = both (not s.awaits) (eqb s.asks 0 && not s.put) (subst (λ (j : Instr). fits_exchange j s ≡ true) e h) in
      let b = both (eqb s.asks 0) (not s.put) a.1 in (
        nothing_awaited (not-true s.awaits a.0),
        nil_from_length u.asks (d.asks ∙ is_zero s.asks b.0),
        no_put u.put (d.put
            ∙ not-true s.put b.1),
      )
  may (ToClose ended) i e h =
      ⊎_elim (λ x. no_reads Halt refl (subst (λ (j : Instr). fits_exchange j s ≡ true) x h))
      (λ x. no_reads (Mark x.0) refl (subst (λ (j : Instr). fits_exchange j s ≡ true) x.1 h)) e

-- the state of a path says of a worker what is held and awaited
pub describes_uniform : (t : Setting) (w : ℕ) (s : State) (x : Worker) → IsWithin s → DescribesWorker t w s x → Describes s x.uniform
describes_uniform t w s x l d = record { asks = d.asks; put = d.put; awaited = d.awaited; alone = l.alone }

-- ---- stretches

module _ (t : Setting) (formed : IsWellFormed t.code) (w : ℕ) where
  -- there is a path there, with a state that describes the worker
  pub record IsThere (place : ℕ) (x : Worker) : Type 0 where
    pub steps : ℕ
    pub point : Point
    pub comes : Comes t.code steps point
    pub here : point.place ≡ place
    pub describes : DescribesWorker t w point.state x

  -- one more step
  onward : (n : ℕ) (q : Point) (c : Comes t.code n q) (i : Instr) (is : slice_get t.code.instructions q.place ≡ Some i) (place : ℕ)
      (x : Worker) →
      Leads i q.place place → DescribesWorker t w (after i q.state) x → IsThere place x
  onward n q c i is place x l d =
      record {
        steps = suc n;
        point = record { place = place; state = after i q.state };
        comes = (q, c, (i, is, l, refl));
        here = refl;
        describes = d;
      }

  pub record Stops (stop : Stop) (place : ℕ) (x : Worker) : Type 0 where
    pub there : IsThere place x
    pub instr : Instr
    pub is : slice_get t.code.instructions place ≡ Some instr
    pub by : StopsBy stop instr
    pub fits : fits_exchange instr there.point.state ≡ true

  -- Whatever a reading of the run answers where it is nowhere, at a stop, or goes on: if the answers are good there, they are after an
  -- instruction.
  module _ {R : Type 0} (Good : R → Type 0) (nowhere : R) (stops : Stop → ℕ → Worker → R) (next : ℕ → Worker → R)
      (stopped : (stop : Stop) (place : ℕ) (x : Worker) → Stops stop place x → Good (stops stop place x))
      (going : (place : ℕ) (x : Worker) → IsThere place x → Good (next place x)) where
    module _ (m : ℕ) (q : Point) (c : Comes t.code m q) (x : Worker) (d : DescribesWorker t w q.state x) where
      abbrev at : Instr → R
      at i = advance t.bound (λ (y : Worker). y.uniform) (after_instr t w) nowhere stops next (Some i) q.place x

      module _ (i : Instr) (is : slice_get t.code.instructions q.place ≡ Some i) (may : IsAllowed t.code q.place i q.state)
          (within : IsWithin q.state) where
        halts : (stop : Stop) → StopsBy stop i → Good (stops stop q.place x)
        halts stop by =
            stopped stop q.place x (record {
              there = record { steps = m; point = q; comes = c; here = refl; describes = d };
              instr = i;
              is = is;
              by = by;
              fits = may.exchange;
            })

        goes : (place : ℕ) (y : Worker) → Leads i q.place place → DescribesWorker t w (after i q.state) y → Good (next place y)
        goes place y l e = going place y (onward m q c i is place y l e)

        works : Works i → Leads i q.place (q.place + 1) → Good (next (q.place + 1) (after_instr t w i x))
        works a l = goes (q.place + 1) (after_instr t w i x) l (acts_worker t w q.state x d q.place i a may within)

      step : (i : Instr) → slice_get t.code.instructions q.place ≡ Some i → IsAllowed t.code q.place i q.state → IsWithin q.state →
          Good (at i)
      step Send is f l = halts Send is f l ToSend refl
      step Reply is f l = halts Reply is f l ToReply refl
      step (Vote v) is f l = halts (Vote v) is f l (ToVote v) refl
      step Halt is f l = halts Halt is f l (ToClose true) (inl refl)
      step (Mark line) is f l = marked (eqb x.uniform.count t.bound)
        where
          marked : (b : Bool) → Good (if b then stops (ToClose false) q.place x else next (q.place + 1) (after_instr t w (Mark line) x))
          marked true = halts (Mark line) is f l (ToClose false) (inr (line, refl))
          marked false = works (Mark line) is f l tt refl
      step (Jump target) is f l = goes (Jump target) is f l target x refl d
      step (JumpIfZero r target) is f l = forked (is_nonzero (x.uniform.registers r))
        where
          forked : (b : Bool) → Good (if b then next (q.place + 1) x else next target x)
          forked true = goes (JumpIfZero r target) is f l (q.place + 1) x (inr refl) d
          forked false = goes (JumpIfZero r target) is f l target x (inl refl) d
      step i is f l = works i is f l tt refl

    advances : (place : ℕ) (x : Worker) → IsThere place x →
        Good (advance t.bound (λ (y : Worker). y.uniform) (after_instr t w) nowhere stops next (slice_get t.code.instructions place) place
        x)
    advances place x h =
        let q = h.point in
        let s = paths_sound t.code formed h.steps q h.comes in
        subst (λ k. Good (advance t.bound (λ (y : Worker). y.uniform) (after_instr t w) nowhere stops next (slice_get t.code.instructions k)
        k x)) h.here
        (subst (λ (o : Option Instr). Good (advance t.bound (λ (y : Worker). y.uniform) (after_instr t w) nowhere stops next o q.place x))
        (sym s.is)
        (step h.steps q h.comes x h.describes s.instr s.is s.allowed s.within))

  abbrev pub Arrives : Arrival Worker → Type 0
  Arrives Nowhere = Unit {0}
  Arrives (At stop place x) = Stops stop place x

  abbrev pub from : ℕ → ℕ → Worker → Arrival Worker
  from n place x = until t.bound (λ (y : Worker). y.uniform) (after_instr t w) t.code.instructions n place x

  pub follow : (n : ℕ) (place : ℕ) (x : Worker) → IsThere place x → Arrives (from n place x)
  follow zero place x h = tt
  follow (suc n) place x h = advances Arrives Nowhere (λ stop k y. At stop k y) (from n) (λ stop k y b. b) (follow n) place x h

  -- and at each moment it is there
  abbrev IsMoment : Option (ℕ × Worker) → Type 0
  IsMoment None = Unit {0}
  IsMoment (Some (place, x)) = IsThere place x

  abbrev walk : ℕ → ℕ → Worker → Option (ℕ × Worker)
  walk n place x = walked t.bound (λ (y : Worker). y.uniform) (after_instr t w) t.code.instructions n place x

  walks : (n : ℕ) (place : ℕ) (x : Worker) → IsThere place x → IsMoment (walk n place x)
  walks zero place x h = h
  walks (suc n) place x h = advances IsMoment None (λ stop k y. None) (walk n) (λ stop k y b. tt) (walks n) place x h

  -- ---- exchanges of a run

  -- as long as the run goes on, its place is on a path
  abbrev pub Agrees : machine.State → Type 0
  Agrees s = s.way ≡ machine.On → IsThere s.place s.worker

  module _ (messages : List Message) where
    -- after an exchange it is there, if it was on its way
    exchanged : (r : machine.Ready) → (r.state.way ≡ machine.On →
        IsThere r.state.place (machine.after_exchange t w r.purpose r.state.worker messages)) →
        Agrees (machine.after t w r messages)
    exchanged r next = go (machine.mark_of messages)
      where
        go : (mark : HeaderMark) → Agrees (machine.after_with t w r messages mark)
        go OutOfMemory = λ h. cc
        go OutOfReserve = λ h. cc
        go Clear = λ h. next (decided_same machine.On (λ key ended e. cc) r.purpose r.state.worker.uniform (machine.key_of messages)
            r.state.way h)

    -- the place behind an exchange
    behind : (stop : Stop) (place : ℕ) (x : Worker) (i : Instr) (y : Worker) (h : Stops stop place x) → h.instr ≡ i → ((k : ℕ) →
        Leads i k (k + 1)) →
        ((s : State) → DescribesWorker t w s x → DescribesWorker t w (after i s) y) → IsThere (place + 1) y
    behind stop place x i y h same leads described =
        let q = h.there.point in
        subst (λ k. IsThere (k + 1) y) h.there.here
        (onward h.there.steps q h.there.comes i (ap (slice_get t.code.instructions) h.there.here ∙ h.is
        ∙ ap (λ j. Some j) same) (q.place + 1) y (leads q.place)
        (described q.state h.there.describes))

    arrived : (s : machine.State) (a : Arrival Worker) → Arrives a → Agrees (machine.after t w (machine.ready_at s a) messages)
    arrived s Nowhere h = exchanged (machine.ready_at s Nowhere) (λ e. cc)
    arrived s (At ToSend place x) h =
        exchanged (machine.ready_at s (At ToSend place x))
        (λ e. behind ToSend place x Send _ h h.by (λ k. refl) (λ z d. sent_worker t w z x d messages))
    arrived s (At ToReply place x) h =
        exchanged (machine.ready_at s (At ToReply place x))
        (λ e. behind ToReply place x Reply _ h h.by (λ k. refl) (λ z d. replied_worker t w z x d messages))
    arrived s (At (ToVote v) place x) h =
        exchanged (machine.ready_at s (At (ToVote v) place x)) (λ e. behind (ToVote v) place x (Vote v) _ h h.by (λ k. refl)
        (λ z d. voted_worker t w z x d v messages))
    arrived s (At (ToClose ended) place x) h = exchanged (machine.ready_at s (At (ToClose ended) place x)) (λ e. cc)

    pub next_agrees : (s : machine.State) → Agrees s → Agrees (machine.after t w (machine.ready t w s) messages)
    next_agrees s a = marked (machine.mark_now s.refusals)
      where
        stays : (way : machine.Way) → s.way ≡ way → (way ≡ machine.On → ⊥) →
            Agrees (machine.after t w (record { purpose = machine.Closes; state = s }) messages)
        stays way e no_way = exchanged (record { purpose = machine.Closes; state = s }) (λ h. absurd (no_way (sym e ∙ h)))

        go : (way : machine.Way) → s.way ≡ way → Agrees (machine.after t w (machine.ready_by t w s way) messages)
        go machine.On e = arrived s (machine.stretch t w s) (follow t.enough s.place s.worker (a e))
        go (machine.Ending f) e = stays (machine.Ending f) e (λ h. cc)
        go (machine.Past k f) e = stays (machine.Past k f) e (λ h. cc)
        go (machine.Refused mark) e = stays (machine.Refused mark) e (λ h. cc)
        go machine.Lost e = stays machine.Lost e (λ h. cc)

        marked : (mark : HeaderMark) → Agrees (machine.after t w (machine.ready_with t w s mark) messages)
        marked Clear = go s.way refl
        marked OutOfMemory = exchanged (record { purpose = machine.Closes; state = machine.stopped OutOfMemory }) (λ h. cc)
        marked OutOfReserve = exchanged (record { purpose = machine.Closes; state = machine.stopped OutOfReserve }) (λ h. cc)

  pub begins : (input : List ℤ) → Agrees (machine.opening t input w)
  begins input h = record {
    steps = 0;
    point = record { place = 0; state = opening };
    comes = (refl, refl);
    here = refl;
    describes =
        opening_worker t w input;
  }

  may_make : (s : machine.State) → Agrees s → s.way ≡ machine.On → (stop : Stop) (place : ℕ) (x : Worker) →
      machine.stretch t w s ≡ At stop place x →
      IsOnPath t.code place × MayExchange stop x.uniform
  may_make s a h stop place x e =
      let z = subst Arrives e (follow t.enough s.place s.worker (a h)) in
      let p = z.there in
      let sound = paths_sound t.code formed p.steps p.point p.comes in (
        (p.steps, p.point, p.comes, p.here),
        may p.point.state x.uniform (describes_uniform t w p.point.state x sound.within p.describes)
            stop z.instr z.by z.fits,
      )

  one_side_at : (s : machine.State) → Agrees s → s.way ≡ machine.On → (stop : Stop) (place : ℕ) (x : Worker) →
      machine.stretch t w s ≡ At stop place x →
      HaveOneSide x.own 0 x.uniform.asks
  one_side_at s a h stop place x e =
      let z = subst Arrives e (follow t.enough s.place s.worker (a h)) in
      let p = z.there in
      one_side t w p.point.state x p.describes

  described : (place : ℕ) (x : Worker) → IsThere place x → IsDescribed t w place x
  described place x h = record {
    steps = h.steps;
    point = h.point;
    comes = h.comes;
    here = h.here;
    describes = h.describes;
    sound = paths_sound t.code formed h.steps h.point h.comes;
  }

  at_moment : (s : machine.State) → Agrees s → s.way ≡ machine.On → (m place : ℕ) (x : Worker) →
      walk m s.place s.worker ≡ Some (place, x) → IsDescribed t w place x
  at_moment s a h m place x e = described place x (subst IsMoment e (walks m s.place s.worker (a h)))

module _ (t : Setting) (formed : IsWellFormed t.code) where
  phases_agree : (p n : ℕ) (ws : ℕ → machine.State) → ((w : ℕ) → Agrees t formed w (ws w)) → (w : ℕ) →
      Agrees t formed w (phases (machine.bsp t) p n ws w)
  phases_agree p zero ws a w = a w
  phases_agree p (suc n) ws a w =
      phases_agree p n (phase (machine.bsp t) p ws) (λ v. next_agrees t formed v (column (machine.bsp t) p ws v) (ws v) (a v)) w

  -- all workers after n exchanges
  pub agree_after : (input : List ℤ) (n w : ℕ) → Agrees t formed w (worker_after t input n w)
  agree_after input n w = phases_agree (workers t) n (machine.opening t input) (λ v. begins t formed v input) w

pub runs_sound : RunsAreSound
runs_sound t formed input n w h stop place x e =
    may_make t formed w (worker_after t input n w) (agree_after t formed input n w) h stop place x e

pub moments_sound : MomentsAreSound
moments_sound t formed input n m w h place x e =
    at_moment t formed w (worker_after t input n w) (agree_after t formed input n w) h m place x e

pub reads_have_one_side : ReadsHaveOneSide
reads_have_one_side t formed input n m w h place x e =
    let d = moments_sound t formed input n m w h place x e in one_side t w d.point.state x d.describes

pub sent_reads_have_one_side : SentReadsHaveOneSide
sent_reads_have_one_side t formed input n w h stop place x e =
    one_side_at t formed w (worker_after t input n w) (agree_after t formed input n w) h stop place x e
