-- A flat run of well-formed code goes along a path of control, and the state that the path gives describes what is held and awaited.
use Rattle.std.proofs.Common.{◌≡◌, ℕ, zero, suc, ◌+◌, List, [], Bool, true, false, not, eqb, Option, Some, ℤ, refl, sym, ap, ◌∙◌, subst}
use Rattle.std.proofs.Common.{◌⊎◌, inl, inr}
use Rattle.std.specs.Prelude.{if◌then◌else◌, ◌&&◌, slice_get}
use Rattle.pram_values.specs.Truth.{is_nonzero}
use Rattle.superstep_instructions.specs.declared.instr.Side.{Side}
use Rattle.superstep_instructions.specs.declared.instr.Instr.{Instr}
use Rattle.superstep_instructions.specs.declared.instr.Instr.TheVariants.{Mark, Put, Send, Reply, Vote, Jump, JumpIfZero, Halt}
use Rattle.superstep_instructions.specs.Code.{SuperstepCode}
use Rattle.superstep_machine.specs.Run.{Way, On, Ending, Past, Refused, Lost, is_held}
use Rattle.superstep_machine.specs.Stretch.{ToClose}
use Rattle.bsp_verify.specs.States as states
use Rattle.bsp_verify.specs.Control.{Leads}
use Rattle.bsp_verify.specs.Judging.{fits_exchange}
use Rattle.bsp_verify.specs.WellFormed.{IsWellFormed}
use Rattle.bsp_verify.specs.Paths.{Point, Comes}
use Rattle.bsp_verify.proofs.PathLemmas.{is_zero, paths_sound}
use Rattle.std.proofs.lemmas.List.{nil_from_length}
use Rattle.bsp_verify.proofs.RunLemmas.{Describes, acts, no_answers, sent}
use Rattle.flat_machine.specs.Flat.{Flat, after_instr, after_send, after_reply, after_vote}
use Rattle.flat_machine.specs.ByExchanges.{State, opening}
use Rattle.flat_machine.specs.ByInstructions.{stopped, going, instructed, step, step_by, steps}
use Rattle.flat_machine.proofs.Stepping.{carried_out}
use Rattle.flat_machine.proofs.Counts.{IsCounted, MayCount, opening_counted, counted_instr, counted_send, counted_reply, counted_vote}
use Rattle.pram_model.proofs.Truths.{both}
use Rattle.std.proofs.lemmas.Bool.{not-true}

-- A path of control comes to the place, with a state that describes what is held and awaited; and the counts are as they should be.
pub record IsAt (code : SuperstepCode) (place : ℕ) (f : Flat) : Type 0 where
  pub steps : ℕ
  pub point : Point
  pub comes : Comes code steps point
  pub here : point.place ≡ place
  pub describes : Describes point.state f.uniform
  pub counted : IsCounted f

pub opening_at : (code : SuperstepCode) (input : List ℤ) → IsAt code 0 (opening input).flat
opening_at code input = record {
  steps = 0;
  point = record { place = 0; state = states.opening };
  comes = (refl, refl);
  here = refl;
  describes = record { asks = refl; put = refl; awaited = refl; alone = λ h. cc };
  counted = opening_counted input;
}

-- ---- what an instruction that may stand there finds

module _ (code : SuperstepCode) (place : ℕ) (f : Flat) (a : IsAt code place f) where
  -- the instruction may stand there, by what is held and awaited
  abbrev pub Fits : Instr → Type 0
  Fits i = fits_exchange i a.point.state ≡ true

  asks_none : (i : Instr) → fits_exchange i a.point.state ≡ (not a.point.state.awaits && eqb a.point.state.asks 0) → Fits i →
      f.uniform.asks ≡ []
  asks_none i e h =
      let b = both (not a.point.state.awaits) (eqb a.point.state.asks 0) (sym e ∙ h) in
      nil_from_length f.uniform.asks (a.describes.asks ∙ is_zero a.point.state.asks b.1)

  pub mark_asks_none : (line : ℕ) → Fits (Mark line) → f.uniform.asks ≡ []
  mark_asks_none line h = asks_none (Mark line) refl h

  pub halt_asks_none : Fits Halt → f.uniform.asks ≡ []
  halt_asks_none h = asks_none Halt refl h

  pub reply_holds_none : Fits Reply → is_held f.uniform.put ≡ false
  reply_holds_none h = a.describes.put ∙ (a.describes.alone h).1

  holds_none : (i : Instr) → fits_exchange i a.point.state ≡ (not a.point.state.awaits
      && (eqb a.point.state.asks 0 && not a.point.state.put)) → Fits i →
      is_held f.uniform.put ≡ false
  holds_none i e h =
      let b = both (not a.point.state.awaits) (eqb a.point.state.asks 0 && not a.point.state.put) (sym e ∙ h) in
      a.describes.put ∙ not-true a.point.state.put (both (eqb a.point.state.asks 0) (not a.point.state.put) b.1).1

  pub vote_holds_none : (d : ℕ) → Fits (Vote d) → is_held f.uniform.put ≡ false
  vote_holds_none d h = holds_none (Vote d) refl h

  pub put_holds_none : (side : Side) (c s v q : ℕ) → Fits (Put side c s v q) → is_held f.uniform.put ≡ false
  put_holds_none side c s v q h = holds_none (Put side c s v q) refl h

  may_count : (i : Instr) → Fits i → MayCount i f.uniform
  may_count (Mark line) h = mark_asks_none line h
  may_count i h = tt

  module _ (i : Instr) (is : slice_get code.instructions place ≡ Some i) where
    -- one more step
    onward : (to : ℕ) (g : Flat) → Leads i place to → Describes (states.after i a.point.state) g.uniform → IsCounted g → IsAt code to g
    onward to g l d c = record {
      steps = suc a.steps;
      point = record { place = to; state = states.after i a.point.state };
      comes = (a.point, a.comes, (i, ap (slice_get code.instructions) a.here ∙ is, subst (λ k. Leads i k to) (sym a.here) l, refl));
      here = refl;
      describes = d;
      counted = c;
    }

  -- ---- and where it leads

  -- what makes no exchange
  abbrev pub Works : Instr → Type 0
  Works Send = ⊥
  Works Reply = ⊥
  Works (Vote d) = ⊥
  Works (Jump target) = ⊥
  Works (JumpIfZero r target) = ⊥
  Works Halt = ⊥
  Works i = Unit {0}

  pub at_works : (i : Instr) → Works i → slice_get code.instructions place ≡ Some i → Fits i → IsAt code (place + 1) (after_instr code i f)
  at_works Send w is h = absurd w
  at_works Reply w is h = absurd w
  at_works (Vote d) w is h = absurd w
  at_works (Jump target) w is h = absurd w
  at_works (JumpIfZero r target) w is h = absurd w
  at_works Halt w is h = absurd w
  at_works i w is h =
      onward i is (place + 1) (after_instr code i f) refl (acts code i a.point.state f.uniform tt (no_answers i a.point.state (λ e. cc) h)
      a.describes)
      (counted_instr code f a.counted i (may_count i h))

  pub at_send : slice_get code.instructions place ≡ Some Send → IsAt code (place + 1) (after_send code f)
  at_send is = onward Send is (place + 1) (after_send code f) refl (sent a.point.state f.uniform a.describes)
      (counted_send code f a.counted)

  pub at_reply : slice_get code.instructions place ≡ Some Reply → IsAt code (place + 1) (after_reply f)
  at_reply is =
      onward Reply is (place + 1) (after_reply f) refl
      (let d = a.describes in record { asks = d.asks; put = d.put; awaited = refl; alone = λ e. cc })
      (counted_reply code f a.counted)

  pub at_vote : (d : ℕ) → slice_get code.instructions place ≡ Some (Vote d) → IsAt code (place + 1) (after_vote d f)
  at_vote v is =
      onward (Vote v) is (place + 1) (after_vote v f) refl
      (let d = a.describes in record { asks = d.asks; put = d.put; awaited = d.awaited; alone = d.alone })
      (counted_vote code f a.counted v)

  same : Describes a.point.state f.uniform
  same = a.describes

  pub at_jump : (target : ℕ) → slice_get code.instructions place ≡ Some (Jump target) → IsAt code target f
  at_jump target is = onward (Jump target) is target f refl same a.counted

  pub at_fork : (r target to : ℕ) → slice_get code.instructions place ≡ Some (JumpIfZero r target) → (to ≡ target) ⊎ (to ≡ place + 1) →
      IsAt code to f
  at_fork r target to is l = onward (JumpIfZero r target) is to f l same a.counted

-- ---- runs

-- as long as it goes on
abbrev pub Agrees : SuperstepCode → State → Type 0
Agrees code s = s.way ≡ On → IsAt code s.place s.flat

module _ (code : SuperstepCode) (formed : IsWellFormed code) where
  -- the instruction at a place, which may stand there
  pub record IsFound (place : ℕ) (f : Flat) (a : IsAt code place f) : Type 0 where
    pub instr : Instr
    pub is : slice_get code.instructions place ≡ Some instr
    pub fits : Fits code place f a instr

  pub found : (place : ℕ) (f : Flat) (a : IsAt code place f) → IsFound place f a
  found place f a =
      let s = paths_sound code formed a.steps a.point a.comes in
      record { instr = s.instr; is = ap (slice_get code.instructions) (sym a.here) ∙ s.is; fits = s.allowed.exchange }

module _ (code : SuperstepCode) (formed : IsWellFormed code) (bound : ℕ) (judges : ℕ → Bool) where
  by_instr : (place : ℕ) (f : Flat) (a : IsAt code place f) (i : Instr) → slice_get code.instructions place ≡ Some i →
      Fits code place f a i →
      Agrees code (carried_out code bound judges (Some i) place f)
  by_instr place f a Send is h = λ e. at_send code place f a is
  by_instr place f a Reply is h = λ e. at_reply code place f a is
  by_instr place f a (Vote d) is h = λ e. at_vote code place f a d is
  by_instr place f a Halt is h = λ e. cc
  by_instr place f a (Mark line) is h = marked (eqb f.uniform.count bound)
    where
      marked : (b : Bool) → Agrees code (if b then stopped code judges (ToClose false) place f else going (place + 1)
          (after_instr code (Mark line) f))
      marked true = λ e. cc
      marked false = λ e. at_works code place f a (Mark line) tt is h
  by_instr place f a (Jump target) is h = λ e. at_jump code place f a target is
  by_instr place f a (JumpIfZero r target) is h = forked (is_nonzero (f.uniform.registers r))
    where
      forked : (b : Bool) → Agrees code (if b then going (place + 1) f else going target f)
      forked true = λ e. at_fork code place f a r target (place + 1) is (inr refl)
      forked false = λ e. at_fork code place f a r target target is (inl refl)
  by_instr place f a i is h = λ e. at_works code place f a i tt is h

  instructed_agrees : (place : ℕ) (f : Flat) → IsAt code place f → Agrees code (instructed code bound judges place f)
  instructed_agrees place f a =
      let x = found code formed place f a in
      subst (λ (o : Option Instr). Agrees code (carried_out code bound judges o place f)) (sym x.is)
      (by_instr place f a x.instr x.is x.fits)

  pub step_agrees : (s : State) → Agrees code s → Agrees code (step code bound judges s)
  step_agrees s a = go s.way refl
    where
      go : (way : Way) → s.way ≡ way → Agrees code (step_by code bound judges s way)
      go On e = instructed_agrees s.place s.flat (a e)
      go (Ending ended) e = a
      go (Past key ended) e = a
      go (Refused mark) e = a
      go Lost e = a

  pub steps_agree : (n : ℕ) (s : State) → Agrees code s → Agrees code (steps code bound judges n s)
  steps_agree zero s a = a
  steps_agree (suc n) s a = steps_agree n (step code bound judges s) (step_agrees s a)

-- as long as a run goes on, its place is on a path whose state describes it
pub states_describe : (code : SuperstepCode) → IsWellFormed code → (bound : ℕ) (judges : ℕ → Bool) (input : List ℤ) (n : ℕ) →
    let s = steps code bound judges n (opening input) in s.way ≡ On → IsAt code s.place s.flat
states_describe code formed bound judges input n = steps_agree code formed bound judges n (opening input) (λ e. opening_at code input)
