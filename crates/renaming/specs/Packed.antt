-- Code whose registers are numbered from 0 on, without a gap, and what it has in common with the code.
use Rattle.std.specs.Prelude.{◌≡◌, ℕ, ◌<◌, ◌⊎◌, List, ℤ}
use Rattle.address_map.specs.Lawful.{Shape}
use Rattle.superstep_instructions.specs.declared.instr.Side.TheVariants.{Uniform, Private}
use Rattle.superstep_instructions.specs.Code.{SuperstepCode}
use Rattle.superstep_machine.specs.Run.{is_over, outcome_by, ready, setting}
use Rattle.bsp_verify.specs.Runs.{worker_after}
use Rattle.bsp_verify.specs.WellFormed.{IsWellFormed}
use Rattle.renaming.specs.Renamed.{IsOneToOne, with_names}
use Rattle.renaming.specs.Named.{IsNamedIn}

-- It is the code, but for the numbers of registers: p gives them, each to one. A private register is there for each that an instruction of
-- the code names, and no other; a uniform one for each that an instruction names, of either side.
pub record IsPacked (code packed : SuperstepCode) : Type 0 where
  pub p : ℕ → ℕ
  pub l : ℕ → ℕ
  pub one : IsOneToOne p l
  pub is : packed ≡ with_names p packed.uniform_registers packed.private_registers code
  pub private : (r : ℕ) → IsNamedIn Private code.instructions r → p r < packed.private_registers
  pub uniform : (r : ℕ) → IsNamedIn Uniform code.instructions r → p r < packed.uniform_registers
  pub private_alone : (n : ℕ) → n < packed.private_registers → IsNamedIn Private code.instructions (l n)
  pub uniform_alone : (n : ℕ) → n < packed.uniform_registers →
      IsNamedIn Private code.instructions (l n) ⊎ IsNamedIn Uniform code.instructions (l n)

-- On the workers of every map, within every bound, by as many instructions and exchanges, it comes to the same; its workers end behind as
-- many exchanges, and have printed as much on the way.
pub record RunsAlike (code packed : SuperstepCode) : Type 0 where
  pub outcomes : (m : Shape) (bound n : ℕ) (input : List ℤ) (exchanges : ℕ) →
      outcome_by (setting packed m bound n) exchanges input ≡ outcome_by (setting code m bound n) exchanges input
  pub over : (m : Shape) (bound n : ℕ) (input : List ℤ) (exchanges w : ℕ) →
      is_over (worker_after (setting packed m bound n) input exchanges w).way ≡ is_over
      (worker_after (setting code m bound n) input exchanges w).way
  pub output : (m : Shape) (bound n : ℕ) (input : List ℤ) (exchanges w : ℕ) →
      (ready (setting packed m bound n) w (worker_after (setting packed m bound n) input exchanges w)).state.worker.uniform.output
      ≡ (ready (setting code m bound n) w (worker_after (setting code m bound n) input exchanges w)).state.worker.uniform.output

-- ---- laws

abbrev pub PackedCodeIsFormed : Type 0
PackedCodeIsFormed = (code packed : SuperstepCode) → IsPacked code packed → IsWellFormed code → IsWellFormed packed

abbrev pub PackedCodeRunsAlike : Type 0
PackedCodeRunsAlike = (code packed : SuperstepCode) → IsPacked code packed → RunsAlike code packed

-- however many the code declares
abbrev pub NoneIsThereUnnamed : Type 0
NoneIsThereUnnamed = (code packed : SuperstepCode) → IsPacked code packed → ((r : ℕ) → IsNamedIn Private code.instructions r → ⊥) →
    packed.private_registers ≡ 0
