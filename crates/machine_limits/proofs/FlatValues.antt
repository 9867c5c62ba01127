-- What a run on one memory has are values of 64 bits.
use Rattle.std.proofs.Common.{◌≡◌, ℕ, zero, suc, ◌+◌, ◌<◌, [], ◌∷◌, ◌++◌, map, Bool, true, false, eqb, Option, Some, None, ℤ, refl}
use Rattle.std.proofs.Common.{arith, FitsSigned}
use Rattle.std.specs.Prelude.{if◌then◌else◌, slice_get}
use Rattle.std.specs.List.{AllByRecursion, zip}
use Rattle.std.specs.Int.{w64}
use Rattle.pram_values.specs.Truth.{is_nonzero}
use Rattle.superstep_instructions.specs.declared.instr.Side.TheVariants.{Uniform, Private}
use Rattle.superstep_instructions.specs.declared.instr.Instr.{Instr}
use Rattle.superstep_instructions.specs.declared.instr.Instr.TheVariants.{Mark, CopyUniform, Index, Enter, Leave, Mask, Flip, Unmask, Ask}
use Rattle.superstep_instructions.specs.declared.instr.Instr.TheVariants.{Put}
use Rattle.superstep_instructions.specs.declared.instr.Instr.TheVariants.{Print}
use Rattle.superstep_instructions.specs.declared.instr.Instr.TheVariants.{Send, Reply, Vote, Jump, JumpIfZero, Halt}
use Rattle.superstep_instructions.specs.Code.{SuperstepCode}
use Rattle.superstep_instructions.specs.Limits.{IsCode, IsInstr}
use Rattle.superstep_machine.specs.Parts.{Read, UniformPart, PrivatePart}
use Rattle.superstep_machine.specs.Results.{is_of}
use Rattle.superstep_machine.specs.Steps.{on_uniform, index_of, is_active, cell_for, on_active, on_own}
use Rattle.superstep_machine.specs.Sending.{verdict_on}
use Rattle.superstep_machine.specs.Answering.{destinations}
use Rattle.superstep_machine.specs.Run.{Way, On, Ending, Past, Refused, Lost, is_held}
use Rattle.superstep_machine.specs.Stretch.{ToClose}
use Rattle.bsp_verify.proofs.WorkerLemmas.{either_way, all_add}
use Rattle.pram_model.specs.Layout.{cell_of}
use Rattle.flat_machine.specs.Flat.{Flat, after_instr, after_send, after_reply, after_vote, any_active}
use Rattle.flat_machine.specs.ByExchanges.{State, opening}
use Rattle.flat_machine.specs.ByInstructions.{closed, stopped, going, step, step_by, steps}
use Rattle.flat_machine.proofs.Stepping.{carried_out}
use Rattle.machine_limits.specs.Within.{HaveValues, IsFlatOfValues, FlatValuesFit, WrittenValuesFit}
use Rattle.machine_limits.proofs.Values.{zero_fits, set_fits, truth_set, result_if, zero_without_fits, answers_fit, index_within}
use Rattle.machine_limits.proofs.Runs.{all_at, verdict_fits, settled_fits, input_fits}

pub written_values_fit : WrittenValuesFit
written_values_fit rule held old h = settled_fits (verdict_on rule held) old (verdict_fits rule held) h

-- ---- instructions

module _ (code : SuperstepCode) where
  uniform_fits : (i : Instr) → IsInstr i → (u : UniformPart) → HaveValues u.registers → HaveValues (on_uniform code i u).registers
  uniform_fits (Mark line) a u h = h
  uniform_fits (Enter r s q) a u h = h
  uniform_fits Leave a u h = h
  uniform_fits (Ask Uniform d e s q) a u h = zero_without_fits (cell_of code.layout e (u.registers s)) d u.registers h
  uniform_fits (Ask Private d e s q) a u h = h
  uniform_fits (Put side e s v q) a u h = h
  uniform_fits (Print s) a u h = h
  uniform_fits i a u h = result_if (is_of Uniform i) i u.registers u.registers a h h

  module _ (u : UniformPart) (k : HaveValues u.registers) (v : ℕ) (index : FitsSigned w64 (index_of u v)) where
    abbrev Fit : PrivatePart → Type 0
    Fit y = HaveValues y.registers

    active_fits : (i : Instr) → IsInstr i → (y : PrivatePart) → Fit y → Fit (on_active code i u v y)
    active_fits (CopyUniform d s) a y h = set_fits d (u.registers s) y.registers (k s) h
    active_fits (Index d) a y h = set_fits d (index_of u v) y.registers index h
    active_fits (Ask Private d e s q) a y h = zero_without_fits (cell_for code e s y) d y.registers h
    active_fits i a y h = result_if (is_of Private i) i y.registers y.registers a h h

    own_fits : (i : Instr) → IsInstr i → (y : PrivatePart) → Fit y → Fit (on_own code i u v y)
    own_fits (Mask s) a y h = h
    own_fits Flip a y h = h
    own_fits Unmask a y h = h
    own_fits (Ask Uniform d e s q) a y h = h
    own_fits (Ask Private d e s q) a y h =
        either_way Fit (is_active y) (on_active code (Ask Private d e s q) u v y) (record y { asks = y.asks ++ None ∷ [] })
        (active_fits (Ask Private d e s q) a y h) h
    own_fits i a y h = either_way Fit (is_active y) (on_active code i u v y) y (active_fits i a y h) h

  module _ (f : Flat) (h : IsFlatOfValues f) where
    owns : (i : Instr) → IsInstr i → (v : ℕ) → v < f.uniform.width → HaveValues (on_own code i f.uniform v (f.own v)).registers
    owns i a v l = own_fits f.uniform h.uniform v (h.indices v l) i a (f.own v) (h.own v l)

    instr_fits : (i : Instr) → IsInstr i → IsFlatOfValues (after_instr code i f)
    instr_fits (Enter r s q) a = record {
      uniform = h.uniform;
      own = λ v l k. zero_fits;
      indices = λ v l. index_within code.procs (f.uniform.registers r) (f.uniform.registers s) (h.uniform r) (h.uniform s) v l;
      memory = h.memory;
      output = h.output;
    }
    instr_fits Leave a = record {
      uniform = h.uniform;
      own = λ v l k. zero_fits;
      indices = λ v l. absurd (omega (arith, l));
      memory = h.memory;
      output = h.output;
    }
    instr_fits (Mark line) a = record {
      uniform = h.uniform;
      own = owns (Mark line) a;
      indices = h.indices;
      memory = h.memory;
      output = h.output;
    }
    instr_fits (Ask Uniform d e s q) a = record {
      uniform = uniform_fits (Ask Uniform d e s q) a f.uniform h.uniform;
      own = owns (Ask Uniform d e s q) a;
      indices = h.indices;
      memory = h.memory;
      output = h.output;
    }
    instr_fits (Ask Private d e s q) a = record {
      uniform = h.uniform;
      own = owns (Ask Private d e s q) a;
      indices = h.indices;
      memory = h.memory;
      output = h.output;
    }
    instr_fits (Print s) a = record {
      uniform = h.uniform;
      own = owns (Print s) a;
      indices = h.indices;
      memory = h.memory;
      output = all_add (λ (item : ℕ × ℤ). FitsSigned w64 item.1) f.uniform.output _ h.output (h.uniform s);
    }
    instr_fits i a = record {
      uniform = uniform_fits i a f.uniform h.uniform;
      own = owns i a;
      indices = h.indices;
      memory = h.memory;
      output = h.output;
    }

    -- ---- exchanges

    send_fits : IsFlatOfValues (after_send code f)
    send_fits = record {
      uniform = h.uniform;
      own = h.own;
      indices = h.indices;
      memory = λ c. written_values_fit code.rule (f.held c) (f.memory c) (h.memory c);
      output = h.output;
    }

    reply_fits : IsFlatOfValues (after_reply f)
    reply_fits = record {
      uniform = answers_fit (λ k c. f.memory c) (λ k c. h.memory c) 0
          (map (λ (x : Read). (x.destination, x.cell)) f.uniform.awaited) f.uniform.registers h.uniform;
      own = λ v l. answers_fit (λ k c. f.memory c) (λ k c. h.memory c) 0 (zip (destinations f.uniform.awaited) (f.own v).awaited)
          (f.own v).registers (h.own v l);
      indices = h.indices;
      memory = h.memory;
      output = h.output;
    }

    vote_fits : (d : ℕ) → IsFlatOfValues (after_vote d f)
    vote_fits d = record {
      uniform = truth_set d (any_active f) f.uniform.registers h.uniform;
      own = h.own;
      indices = h.indices;
      memory = h.memory;
      output = h.output;
    }

    close_fits : (ended : Bool) (place : ℕ) → IsFlatOfValues (closed code ended place f).flat
    close_fits ended place = go (is_held f.uniform.put)
      where
        go : (b : Bool) → IsFlatOfValues (if b then after_send code f else f)
        go true = send_fits
        go false = h

    module _ (bound : ℕ) (judges : ℕ → Bool) (place : ℕ) where
      by_instr : (i : Instr) → IsInstr i → IsFlatOfValues (carried_out code bound judges (Some i) place f).flat
      by_instr Send a = send_fits
      by_instr Reply a = reply_fits
      by_instr (Vote d) a = vote_fits d
      by_instr Halt a = close_fits true place
      by_instr (Jump target) a = h
      by_instr (JumpIfZero r target) a = forked (is_nonzero (f.uniform.registers r))
        where
          forked : (b : Bool) → IsFlatOfValues (if b then going (place + 1) f else going target f).flat
          forked true = h
          forked false = h
      by_instr (Mark line) a = marked (eqb f.uniform.count bound)
        where
          marked : (b : Bool) → IsFlatOfValues
              (if b then stopped code judges (ToClose false) place f else going (place + 1) (after_instr code (Mark line) f)).flat
          marked true = close_fits false place
          marked false = instr_fits (Mark line) a
      by_instr i a = instr_fits i a

      by_place : AllByRecursion IsInstr code.instructions → (o : Option Instr) → slice_get code.instructions place ≡ o →
          IsFlatOfValues (carried_out code bound judges o place f).flat
      by_place all None e = h
      by_place all (Some i) e = by_instr i (all_at IsInstr code.instructions all place i e)

-- ---- runs

module _ (code : SuperstepCode) (limits : IsCode code) (bound : ℕ) (judges : ℕ → Bool) where
  step_fits : (s : State) → IsFlatOfValues s.flat → IsFlatOfValues (step code bound judges s).flat
  step_fits s h = go s.way
    where
      go : (way : Way) → IsFlatOfValues (step_by code bound judges s way).flat
      go On = by_place code s.flat h bound judges s.place limits.instructions (slice_get code.instructions s.place) refl
      go (Ending ended) = h
      go (Past key ended) = h
      go (Refused mark) = h
      go Lost = h

  steps_fit : (n : ℕ) (s : State) → IsFlatOfValues s.flat → IsFlatOfValues (steps code bound judges n s).flat
  steps_fit zero s h = h
  steps_fit (suc n) s h = steps_fit n (step code bound judges s) (step_fits s h)

pub flat_values_fit : FlatValuesFit
flat_values_fit code limits input values bound judges n =
    steps_fit code limits bound judges n (opening input)
    (record {
      uniform = λ r. zero_fits;
      own = λ v l r. zero_fits;
      indices = λ v l. absurd (omega (arith, l));
      memory = input_fits input values;
      output = tt;
    })
