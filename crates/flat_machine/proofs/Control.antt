-- Workers that are one flat state go where the flat machine goes.
use Rattle.std.proofs.Common.{◌≡◌, ℕ, zero, suc, ◌+◌, ◌<◌, List, Bool, true, false, eqb, Option, Some, None, refl, sym, ap, ◌∙◌}
use Rattle.std.specs.Prelude.{if◌then◌else◌, slice_get}
use Rattle.pram_values.specs.Truth.{is_nonzero}
use Rattle.superstep_instructions.specs.declared.instr.Instr.{Instr}
use Rattle.superstep_instructions.specs.declared.instr.Instr.TheVariants.{Mark, Send, Reply, Vote, Jump, JumpIfZero, Halt}
use Rattle.superstep_machine.specs.Setting.{Setting, workers}
use Rattle.superstep_machine.specs.Parts.{UniformPart}
use Rattle.superstep_machine.specs.Worker.{Worker}
use Rattle.superstep_machine.specs.Worker as worker
use Rattle.superstep_machine.specs.Stretch.{Stop, ToSend, ToReply, ToVote, ToClose, Arrival, Nowhere, At, advance, until}
use Rattle.flat_machine.specs.Flat.{Flat}
use Rattle.flat_machine.specs.Flat as flat
use Rattle.bsp_verify.specs.Moments.{walked}
use Rattle.flat_machine.proofs.Relation.{Splits}

module _ (t : Setting) where
  -- an instruction keeps the workers one flat state
  abbrev pub InstructionsSplit : Type 0
  InstructionsSplit = (i : Instr) (f : Flat) (ws : ℕ → Worker) → Splits t f ws →
      Splits t (flat.after_instr t.code i f) (λ w. worker.after_instr t w i (ws w))

  abbrev pub flat_uniform : Flat → UniformPart
  flat_uniform f = f.uniform

  abbrev pub worker_uniform : Worker → UniformPart
  worker_uniform x = x.uniform

  -- Whatever two runs answer where they are nowhere, at a stop, or go on: if the answers stand in a relation there, they do after an
  -- instruction. The relation looks at the workers that there are.
  module _ (instr : InstructionsSplit) {R Q : Type 0} (Rel : R → (ℕ → Q) → Type 0)
      (same : (a : R) (each other : ℕ → Q) → ((w : ℕ) → w < workers t → each w ≡ other w) → Rel a each → Rel a other)
      (nowhere : R) (nowheres : Q) (lost : Rel nowhere (λ w. nowheres))
      (stops : Stop → ℕ → Flat → R) (stopping : Stop → ℕ → Worker → Q)
      (stopped : (stop : Stop) (place : ℕ) (f : Flat) (ws : ℕ → Worker) → Splits t f ws →
      Rel (stops stop place f) (λ w. stopping stop place (ws w)))
      (next : ℕ → Flat → R) (nexts : ℕ → ℕ → Worker → Q)
      (goes : (place : ℕ) (f : Flat) (ws : ℕ → Worker) → Splits t f ws → Rel (next place f) (λ w. nexts w place (ws w))) where
    module _ (place : ℕ) (f : Flat) (ws : ℕ → Worker) (s : Splits t f ws) where
      acts : (i : Instr) → Rel (next (place + 1) (flat.after_instr t.code i f)) (λ w. nexts w (place + 1) (worker.after_instr t w i (ws w)))
      acts i = goes (place + 1) (flat.after_instr t.code i f) (λ w. worker.after_instr t w i (ws w)) (instr i f ws s)

      marked : (line : ℕ) (b : Bool) →
          Rel (if b then stops (ToClose false) place f else next (place + 1) (flat.after_instr t.code (Mark line) f))
          (λ w. if b then stopping (ToClose false) place (ws w) else nexts w (place + 1) (worker.after_instr t w (Mark line) (ws w)))
      marked line true = stopped (ToClose false) place f ws s
      marked line false = acts (Mark line)

      forked : (target : ℕ) (b : Bool) → Rel (if b then next (place + 1) f else next target f)
          (λ w. if b then nexts w (place + 1) (ws w) else nexts w target (ws w))
      forked target true = goes (place + 1) f ws s
      forked target false = goes target f ws s

      pub advances : (o : Option Instr) →
          Rel (advance t.bound flat_uniform (flat.after_instr t.code) nowhere stops next o place f)
          (λ w. advance t.bound worker_uniform (worker.after_instr t w) nowheres stopping (nexts w) o place (ws w))
      advances None = lost
      advances (Some (Mark line)) =
          same _ (λ w. if eqb f.uniform.count t.bound then stopping (ToClose false) place (ws w) else
          nexts w (place + 1) (worker.after_instr t w (Mark line) (ws w))) _
          (λ w l. ap (λ (u : UniformPart). if eqb u.count t.bound then stopping (ToClose false) place (ws w) else
          nexts w (place + 1) (worker.after_instr t w (Mark line) (ws w))) (sym (s.uniform w l)))
          (marked line (eqb f.uniform.count t.bound))
      advances (Some Send) = stopped ToSend place f ws s
      advances (Some Reply) = stopped ToReply place f ws s
      advances (Some (Vote d)) = stopped (ToVote d) place f ws s
      advances (Some (Jump target)) = goes target f ws s
      advances (Some (JumpIfZero r target)) =
          same _ (λ w. if is_nonzero (f.uniform.registers r) then nexts w (place + 1) (ws w) else nexts w target (ws w)) _
          (λ w l. ap (λ (u : UniformPart). if is_nonzero (u.registers r) then nexts w (place + 1) (ws w) else nexts w target (ws w))
          (sym (s.uniform w l)))
          (forked target (is_nonzero (f.uniform.registers r)))
      advances (Some Halt) = stopped (ToClose true) place f ws s
      advances (Some i) = acts i

-- ---- stretches

module _ (t : Setting) (instr : InstructionsSplit t) where
  -- all arrive where the flat machine does
  abbrev pub ArrivedAs : Arrival Flat → (ℕ → Arrival Worker) → Type 0
  ArrivedAs Nowhere each = (w : ℕ) → w < workers t → each w ≡ Nowhere
  ArrivedAs (At stop place f) each = (xs : ℕ → Worker) × ((w : ℕ) → w < workers t → each w ≡ At stop place (xs w)) × Splits t f xs

  arrived_same : (a : Arrival Flat) (each other : ℕ → Arrival Worker) → ((w : ℕ) → w < workers t → each w ≡ other w) → ArrivedAs a each →
      ArrivedAs a other
  arrived_same Nowhere each other e h = λ w l. sym (e w l) ∙ h w l
  arrived_same (At stop place f) each other e h = (h.0, λ w l. sym (e w l) ∙ h.1 w l, h.2)

  pub until_splits : (code : List Instr) (n place : ℕ) (f : Flat) (ws : ℕ → Worker) → Splits t f ws →
      ArrivedAs (until t.bound (flat_uniform t) (flat.after_instr t.code) code n place f)
      (λ w. until t.bound (worker_uniform t) (worker.after_instr t w) code n place (ws w))
  until_splits code zero place f ws s = λ w l. refl
  until_splits code (suc n) place f ws s =
      advances t instr ArrivedAs arrived_same Nowhere Nowhere (λ w l. refl) (λ stop k x. At stop k x) (λ stop k x. At stop k x)
      (λ stop k g xs r. (xs, λ w l. refl, r))
      (until t.bound (flat_uniform t) (flat.after_instr t.code) code n) (λ w. until t.bound (worker_uniform t) (worker.after_instr t w) code
      n) (until_splits code n) place f ws s (slice_get code place)

  -- and so at each moment
  abbrev pub WalkedAs : Option (ℕ × Flat) → (ℕ → Option (ℕ × Worker)) → Type 0
  WalkedAs None each = (w : ℕ) → w < workers t → each w ≡ None
  WalkedAs (Some (place, f)) each = (xs : ℕ → Worker) × ((w : ℕ) → w < workers t → each w ≡ Some (place, xs w)) × Splits t f xs

  walked_same : (a : Option (ℕ × Flat)) (each other : ℕ → Option (ℕ × Worker)) → ((w : ℕ) → w < workers t → each w ≡ other w) →
      WalkedAs a each → WalkedAs a other
  walked_same None each other e h = λ w l. sym (e w l) ∙ h w l
  walked_same (Some (place, f)) each other e h = (h.0, λ w l. sym (e w l) ∙ h.1 w l, h.2)

  pub walked_splits : (code : List Instr) (n place : ℕ) (f : Flat) (ws : ℕ → Worker) → Splits t f ws →
      WalkedAs (walked t.bound (flat_uniform t) (flat.after_instr t.code) code n place f)
      (λ w. walked t.bound (worker_uniform t) (worker.after_instr t w) code n place (ws w))
  walked_splits code zero place f ws s = (ws, λ w l. refl, s)
  walked_splits code (suc n) place f ws s =
      advances t instr WalkedAs walked_same None None (λ w l. refl) (λ stop k x. None) (λ stop k x. None) (λ stop k g xs r. λ w l. refl)
      (walked t.bound (flat_uniform t) (flat.after_instr t.code) code n) (λ w. walked t.bound (worker_uniform t) (worker.after_instr t w)
      code n) (walked_splits code n) place f ws s (slice_get code place)
