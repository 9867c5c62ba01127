-- The states on a path are those that any way to meet the instructions gives.
use Rattle.std.proofs.Common.{◌≡◌, ℕ, zero, suc, ◌+◌, ◌<◌, ◌≤◌, length, Bool, true, false, not, eqb, Some, refl, sym, ap, ◌∙◌, subst, arith}
use Rattle.std.proofs.Common.{⊎_elim, ◌⊎◌, inl, inr}
use Rattle.std.specs.Prelude.{◌&&◌, nat_lt, slice_get}
use Rattle.std.proofs.lemmas.Bool.Decides.{nat_tests}
use Rattle.superstep_instructions.specs.declared.instr.Instr.{Instr}
use Rattle.superstep_instructions.specs.declared.instr.Instr.TheVariants.{Enter, Leave, Mask, Unmask, Ask, Put, Send, Reply, Jump}
use Rattle.superstep_instructions.specs.declared.instr.Instr.TheVariants.{JumpIfZero, Halt}
use Rattle.superstep_instructions.specs.Code.{SuperstepCode}
use Rattle.bsp_verify.specs.declared.state.State.{State}
use Rattle.bsp_verify.specs.States.{opening, after}
use Rattle.bsp_verify.specs.Control.{Leads}
use Rattle.bsp_verify.specs.Judging.{is_mark, is_target, has_target, IsAllowed}
use Rattle.bsp_verify.specs.WellFormed.{IsMet, IsWellFormed}
use Rattle.bsp_verify.specs.Paths.{Point, Comes, IsWithin, IsSound, PathsAreSound}
use Rattle.bsp_verify.proofs.Ways.{leads_within}
use Rattle.pram_model.proofs.Truths.{both, unsome}
use Rattle.std.proofs.lemmas.Bool.{not-true}

-- a target isn't above the jump, or it is
target_rises : (code : SuperstepCode) (place t : ℕ) → is_target code place t ≡ true →
    (place < t) ⊎ (is_mark (slice_get code.instructions t) ≡ true)
target_rises code place t h = go (nat_lt place t) (is_mark (slice_get code.instructions t)) refl refl
  where
    go : (a b : Bool) → nat_lt place t ≡ a → is_mark (slice_get code.instructions t) ≡ b →
        (place < t) ⊎ (is_mark (slice_get code.instructions t) ≡ true)
    go true b x y = inl (grind (arith, nat_tests))
    go false true x y = inr y
    go false false x y = absurd (grind (arith, nat_tests))

next_rises : (place t : ℕ) → t ≡ place + 1 → place < t
next_rises place t h = omega (arith, h)

pub step_rises : (code : SuperstepCode) (place : ℕ) (i : Instr) → has_target code place i ≡ true → (t : ℕ) → Leads i place t →
    (place < t) ⊎ (is_mark (slice_get code.instructions t) ≡ true)
step_rises code place Halt a t l = absurd l
step_rises code place (Jump target) a t l =
    subst (λ n. (place < n) ⊎ (is_mark (slice_get code.instructions n) ≡ true)) (sym l) (target_rises code place target a)
step_rises code place (JumpIfZero r target) a t l =
    ⊎_elim (λ e. subst (λ n. (place < n) ⊎ (is_mark (slice_get code.instructions n) ≡ true)) (sym e) (target_rises code place target a))
    (λ e. inl (next_rises place t e)) l
step_rises code place i a t l = inl (next_rises place t l)

-- ---- limits

opening_within : IsWithin opening
opening_within = record { masks = omega arith; asks = omega arith; outside = λ h. refl; alone = λ h. cc }

pub not_both : {A : Type 0} (b : Bool) → b ≡ false → b ≡ true → A
not_both b f h = cc

below : (n m : ℕ) → nat_lt n m ≡ true → n + 1 ≤ m
below n m h = grind (arith, nat_tests)

pub is_zero : (n : ℕ) → eqb n 0 ≡ true → n ≡ 0
is_zero n h = grind (arith, nat_tests)

-- what may stand there passes no limit
within_after : (code : SuperstepCode) (place : ℕ) (i : Instr) (s : State) → IsAllowed code place i s → IsWithin s → IsWithin (after i s)
within_after code place (Enter a b q) s h w = record { masks = w.masks; asks = w.asks; outside = λ e. cc; alone = w.alone }
within_after code place Leave s h w = record { masks = w.masks; asks = w.asks; outside = λ e. is_zero s.masks h.masks; alone = w.alone }
within_after code place (Mask r) s h w = record {
  masks = below s.masks 64 h.masks;
  asks = w.asks;
  outside = λ e. not_both s.entered e h.mode;
  alone = w.alone;
}
within_after code place Unmask s h w = record {
  masks = (let m = w.masks in omega (arith, m));
  asks = w.asks;
  outside = λ e. not_both s.entered e h.mode;
  alone = w.alone;
}
within_after code place (Ask side d c r q) s h w =
    let b = both (not s.awaits) (nat_lt s.asks 8) h.exchange in record {
      masks = w.masks;
      asks = below s.asks 8 b.1;
      outside = w.outside;
      alone = λ e. not_both s.awaits (not-true s.awaits b.0) e;
    }
within_after code place (Put side c r v q) s h w =
    let b = both (not s.awaits) (eqb s.asks 0 && not s.put) h.exchange in record {
      masks = w.masks;
      asks = w.asks;
      outside = w.outside;
      alone = λ e. not_both s.awaits (not-true s.awaits b.0) e;
    }
within_after code place Send s h w = record { masks = w.masks; asks = omega arith; outside = w.outside; alone = λ e. (refl, refl) }
within_after code place Reply s h w = record { masks = w.masks; asks = w.asks; outside = w.outside; alone = λ e. cc }
within_after code place i s h w = record { masks = w.masks; asks = w.asks; outside = w.outside; alone = w.alone }

module _ (code : SuperstepCode) (formed : IsWellFormed code) where
  abbrev given : ℕ → State
  given = formed.1.0

  abbrev met : (k : ℕ) → k < length code.instructions → IsMet code given k
  met k l = formed.1.1.each k l

  -- each point of a path is in the code, and has the state that is given to its place
  pub comes_given : (n : ℕ) (q : Point) → Comes code n q → (q.place < length code.instructions) × (q.state ≡ given q.place)
  comes_given zero q h = (subst (λ m. m < length code.instructions) (sym h.0) formed.0, h.1 ∙ sym formed.1.1.start ∙ ap given (sym h.0))
  comes_given (suc n) q h =
      let p = h.0 in
      let s = h.2 in
      let before = comes_given n p h.1 in
      let m = met p.place before.0 in
      let same = unsome s.0 m.instr (sym s.1 ∙ m.is) in
      let leads = subst (λ (i : Instr). Leads i p.place q.place) same s.2 in (
        leads_within code p.place m.instr m.allowed.target m.allowed.within q.place leads,
        s.3 ∙ ap (λ (i : Instr). after i p.state) same ∙ ap (after m.instr) before.1 ∙ sym (m.leaves q.place leads),
      )

  -- on a path nothing is passed beyond the limits
  comes_within : (n : ℕ) (q : Point) → Comes code n q → IsWithin q.state
  comes_within zero q h = subst IsWithin (sym h.1) opening_within
  comes_within (suc n) q h =
      let p = h.0 in
      let s = h.2 in
      let before = comes_given n p h.1 in
      let m = met p.place before.0 in
      let same = unsome s.0 m.instr (sym s.1 ∙ m.is) in
      subst IsWithin (sym (s.3 ∙ ap (λ (i : Instr). after i p.state) same))
      (within_after code p.place m.instr p.state (subst (λ (x : State). IsAllowed code p.place m.instr x) (sym before.1) m.allowed)
      (comes_within n p h.1))

  sound : (n : ℕ) (q : Point) → Comes code n q → IsSound code q
  sound n q h =
      let at = comes_given n q h in
      let m = met q.place at.0 in
      record {
        instr = m.instr;
        is = m.is;
        allowed = subst (λ (s : State). IsAllowed code q.place m.instr s) (sym at.1) m.allowed;
        rises = step_rises code q.place m.instr m.allowed.target;
        within = comes_within n q h;
      }

pub paths_sound : PathsAreSound
paths_sound code formed n q h = sound code formed n q h
