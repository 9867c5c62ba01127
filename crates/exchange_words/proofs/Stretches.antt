-- What the workers owe at the end of a stretch is at most what they owed at its beginning, and what its accesses take.
use Rattle.std.proofs.Common.{◌≡◌, ℕ, zero, suc, ◌+◌, ◌<◌, ◌≤◌, List, Bool, true, false, eqb, Option, Some, None, sym, ap, subst, arith}
use Rattle.std.specs.Prelude.{if◌then◌else◌, slice_get}
use Rattle.std.specs.List.{range_with_len}
use Rattle.pram_values.specs.Truth.{is_nonzero}
use Rattle.pram_values.proofs.Totals.{total_within}
use Rattle.superstep_instructions.specs.declared.instr.Instr.{Instr}
use Rattle.superstep_instructions.specs.declared.instr.Instr.TheVariants.{Mark, Send, Reply, Vote, Jump, JumpIfZero, Halt}
use Rattle.superstep_instructions.specs.Code.{SuperstepCode}
use Rattle.superstep_machine.specs.Setting.{Setting, workers}
use Rattle.superstep_machine.specs.Parts.{UniformPart}
use Rattle.superstep_machine.specs.Worker.{Worker}
use Rattle.superstep_machine.specs.Worker as worker
use Rattle.superstep_machine.specs.Stretch.{ToClose, Arrival, Nowhere, At, advance, until}
use Rattle.flat_machine.specs.Flat.{Flat}
use Rattle.flat_machine.specs.Flat as flat
use Rattle.flat_machine.specs.Flatness.{IsMapFor}
use Rattle.flat_machine.proofs.Relation.{Splits}
use Rattle.flat_machine.proofs.Instructions.{splits_instr}
use Rattle.exchange_words.specs.Accesses.{words_at}
use Rattle.exchange_words.proofs.Sums.{added}
use Rattle.exchange_words.proofs.Owed.{owed}
use Rattle.exchange_words.proofs.Gains.{gains}

-- what a stretch of at most n instructions takes, with p workers
abbrev pub stretch_words : SuperstepCode → (bound p n : ℕ) → ℕ → Flat → ℕ
stretch_words code bound p zero place f = 0
stretch_words code bound p (suc n) place f =
    words_at code.rule p (slice_get code.instructions place) f
    + advance bound (λ (g : Flat). g.uniform) (flat.after_instr code) 0 (λ stop k g. 0) (stretch_words code bound p n)
    (slice_get code.instructions place) place f

-- a worker where it arrives; where it gets nowhere it is taken as it was
abbrev pub came : Worker → Arrival Worker → Worker
came x Nowhere = x
came x (At stop place y) = y

module _ (t : Setting) (room : IsMapFor t.code t.map) (start : ℕ → Worker) (most : ℕ) where
  abbrev all : List ℕ
  all = range_with_len 0 (workers t)

  abbrev owed_by : (ℕ → Worker) → ℕ
  owed_by xs = added (λ w. owed t.code.rule (xs w)) all

  abbrev worker_uniform : Worker → UniformPart
  worker_uniform x = x.uniform

  -- where the workers come to by n instructions
  abbrev arrived : ℕ → ℕ → (ℕ → Worker) → ℕ → Worker
  arrived n place xs w = came (start w) (until t.bound worker_uniform (worker.after_instr t w) t.code.instructions n place (xs w))

  abbrev by : ℕ → ℕ → (ℕ → Worker) → Option Instr → ℕ → Worker
  by n place xs o w =
      came (start w) (advance t.bound worker_uniform (worker.after_instr t w) Nowhere (λ stop k x. At stop k x)
      (until t.bound worker_uniform (worker.after_instr t w) t.code.instructions n) o place (xs w))

  abbrev flat_by : ℕ → ℕ → Flat → Option Instr → ℕ
  flat_by n place f o =
      advance t.bound (λ (g : Flat). g.uniform) (flat.after_instr t.code) 0 (λ stop k g. 0)
      (stretch_words t.code t.bound (workers t) n) o place f

  abbrev pub Keeps : ℕ → Type 0
  Keeps n = (place : ℕ) (f : Flat) (xs : ℕ → Worker) → Splits t f xs →
      owed_by xs + stretch_words t.code t.bound (workers t) n place f ≤ most → owed_by (arrived n place xs) ≤ most

  module _ (begun : owed_by start ≤ most) (n : ℕ) (keeps : Keeps n) (place : ℕ) (f : Flat) (xs : ℕ → Worker) (s : Splits t f xs) where
    -- workers that are equal owe the same
    same_owed : (ys zs : ℕ → Worker) → ((w : ℕ) → w < workers t → ys w ≡ zs w) → owed_by ys ≤ most → owed_by zs ≤ most
    same_owed ys zs e h =
        subst (λ m. m ≤ most) (total_within 0 (λ a b. a + b) (λ w. owed t.code.rule (ys w)) (λ w. owed t.code.rule (zs w)) (workers t) 0
        (λ w l. ap (owed t.code.rule) (e w (omega (arith, l))))) h

    acts : (i : Instr) → owed_by xs + (words_at t.code.rule (workers t) (Some i) f
        + stretch_words t.code t.bound (workers t) n (place + 1) (flat.after_instr t.code i f)) ≤ most →
        owed_by (λ w. arrived n (place + 1) (λ v. worker.after_instr t v i (xs v)) w) ≤ most
    acts i h =
        keeps (place + 1) (flat.after_instr t.code i f) (λ v. worker.after_instr t v i (xs v)) (splits_instr t room i f xs s)
        (let g = gains t room i f xs s in omega (arith, g, h))

    marked : (line : ℕ) (b : Bool) →
        owed_by xs + (0 + (if b then 0 else stretch_words t.code t.bound (workers t) n (place + 1) (flat.after_instr t.code (Mark line) f)))
        ≤ most →
        owed_by (λ w. came (start w) (if b then At (ToClose false) place (xs w) else
        until t.bound worker_uniform (worker.after_instr t w) t.code.instructions n (place + 1)
        (worker.after_instr t w (Mark line) (xs w))))
        ≤ most
    marked line true h = omega (arith, h)
    marked line false h = acts (Mark line) h

    forked : (target : ℕ) (b : Bool) →
        owed_by xs + (0 + (if b then stretch_words t.code t.bound (workers t) n (place + 1) f
        else stretch_words t.code t.bound (workers t) n target f)) ≤ most →
        owed_by (λ w. came (start w) (if b then until t.bound worker_uniform (worker.after_instr t w) t.code.instructions n
        (place + 1) (xs w)
        else until t.bound worker_uniform (worker.after_instr t w) t.code.instructions n target (xs w))) ≤ most
    forked target true h = keeps (place + 1) f xs s (omega (arith, h))
    forked target false h = keeps target f xs s (omega (arith, h))

    steps : (o : Option Instr) → owed_by xs + (words_at t.code.rule (workers t) o f + flat_by n place f o) ≤ most →
        owed_by (by n place xs o) ≤ most
    steps None h = begun
    steps (Some (Mark line)) h =
        same_owed (λ w. came (start w) (if eqb f.uniform.count t.bound then At (ToClose false) place (xs w) else
        until t.bound worker_uniform (worker.after_instr t w) t.code.instructions n (place + 1)
        (worker.after_instr t w (Mark line) (xs w))))
        (by n place xs (Some (Mark line)))
        (λ w l. ap (λ (u : UniformPart). came (start w) (if eqb u.count t.bound then At (ToClose false) place (xs w) else
        until t.bound worker_uniform (worker.after_instr t w) t.code.instructions n (place + 1)
        (worker.after_instr t w (Mark line) (xs w))))
        (sym (s.uniform w l)))
        (marked line (eqb f.uniform.count t.bound) h)
    steps (Some Send) h = omega (arith, h)
    steps (Some Reply) h = omega (arith, h)
    steps (Some (Vote d)) h = omega (arith, h)
    steps (Some (Jump target)) h = keeps target f xs s (omega (arith, h))
    steps (Some (JumpIfZero r target)) h =
        same_owed (λ w. came (start w) (if is_nonzero (f.uniform.registers r)
        then until t.bound worker_uniform (worker.after_instr t w) t.code.instructions n (place + 1) (xs w)
        else until t.bound worker_uniform (worker.after_instr t w) t.code.instructions n target (xs w)))
        (by n place xs (Some (JumpIfZero r target)))
        (λ w l. ap (λ (u : UniformPart). came (start w) (if is_nonzero (u.registers r)
        then until t.bound worker_uniform (worker.after_instr t w) t.code.instructions n (place + 1) (xs w)
        else until t.bound worker_uniform (worker.after_instr t w) t.code.instructions n target (xs w))) (sym (s.uniform w l)))
        (forked target (is_nonzero (f.uniform.registers r)) h)
    steps (Some Halt) h = omega (arith, h)
    steps (Some i) h = acts i h

  pub stretches : owed_by start ≤ most → (n : ℕ) → Keeps n
  stretches begun zero place f xs s h = begun
  stretches begun (suc n) place f xs s h =
      steps begun n (stretches begun n) place f xs s (slice_get t.code.instructions place) h
