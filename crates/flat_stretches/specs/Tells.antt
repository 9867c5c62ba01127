-- When a fault of the running statement is the outcome: it is told, and what stands up to the next mark or halt notes nothing.
use Rattle.std.specs.Prelude.{◌≡◌, ℕ, ◌+◌, List, [], length, Bool, true, false, Some, slice_get}
use Rattle.std.specs.List.{AllByRecursion}
use Rattle.write_rules.specs.Verdict.{Faulted}
use Rattle.superstep_instructions.specs.declared.instr.Instr.{Instr}
use Rattle.superstep_instructions.specs.declared.instr.Instr.TheVariants.{Set, Copy, Decide, Not, CopyUniform, Index, Leave, Mask, Flip}
use Rattle.superstep_instructions.specs.declared.instr.Instr.TheVariants.{Unmask}
use Rattle.superstep_instructions.specs.declared.instr.Instr.TheVariants.{Print, Send, Reply, Vote, Jump, JumpIfZero}
use Rattle.superstep_instructions.specs.Code.{SuperstepCode}
use Rattle.superstep_machine.specs.declared.key.Key.{Key}
use Rattle.superstep_machine.specs.Run.{items_below, fault_of}
use Rattle.bsp_verify.specs.WellFormed.{IsWellFormed}
use Rattle.flat_machine.specs.Flat.{Flat}
use Rattle.flat_machine.specs.ByInstructions.{going, IsFlatOutcome}
use Rattle.flat_machine.specs.Verdicts.{told, ends_statement}
use Rattle.flat_stretches.specs.Along.{Run, Comes, IsAt}
use Rattle.flat_stretches.specs.Folds.{Stand}

-- a key of the running statement is told, and no read is held
pub record IsDoomed (code : SuperstepCode) (key : Key) (f : Flat) : Type 0 where
  pub told : told code f ≡ Some key
  pub running : key.count ≡ f.uniform.count
  pub asks : f.uniform.asks ≡ []

-- The place tells: a run that comes there with such a key has it as its outcome, with the output of the statements before.
abbrev pub Tells : Run → ℕ → Type 0
Tells t place = (key : Key) (f : Flat) (spent : ℕ) → Comes t (going place f) spent → IsDoomed t.code key f →
    IsFlatOutcome t.code t.input t.bound (Faulted (fault_of key) (items_below key.count f.uniform.output))

-- It notes nothing in any state, ends no statement, and doesn't jump. (It holds no read or write either.)
abbrev pub is_quiet : Instr → Bool
is_quiet (Set side d x) = true
is_quiet (Copy side d s) = true
is_quiet (Decide side o d a b) = true
is_quiet (Not side d s) = true
is_quiet (CopyUniform d s) = true
is_quiet (Index d) = true
is_quiet Leave = true
is_quiet (Mask r) = true
is_quiet Flip = true
is_quiet Unmask = true
is_quiet (Print s) = true
is_quiet Send = true
is_quiet Reply = true
is_quiet (Vote d) = true
is_quiet i = false

-- ---- of well-formed code a mark and a halt tell

abbrev pub EndsTell : Type 0
EndsTell = (t : Run) → IsWellFormed t.code → (place : ℕ) → ends_statement (slice_get t.code.instructions place) ≡ true → Tells t place

-- ---- and of every code each place before them

abbrev pub QuietPlacesTell : Type 0
QuietPlacesTell = (t : Run) (place : ℕ) (i : Instr) → IsAt t place i → is_quiet i ≡ true → Tells t (place + 1) → Tells t place

abbrev pub QuietStretchesTell : Type 0
QuietStretchesTell = (t : Run) (is : List Instr) (place : ℕ) → Stand t place is → AllByRecursion (λ (i : Instr). is_quiet i ≡ true) is →
    Tells t (place + length is) → Tells t place

abbrev pub JumpsTell : Type 0
JumpsTell = (t : Run) (place target : ℕ) → IsAt t place (Jump target) → Tells t target → Tells t place

-- whatever the register holds
abbrev pub ForksTell : Type 0
ForksTell = (t : Run) (place r target : ℕ) → IsAt t place (JumpIfZero r target) → Tells t (place + 1) → Tells t target → Tells t place

-- ---- all of these at once

-- The place is calm: from each way on from it the next mark or halt is come to by quiet instructions and jumps alone.
pub data IsCalm (code : SuperstepCode) : ℕ → Type 0 where
  ends : {place : ℕ} → ends_statement (slice_get code.instructions place) ≡ true → IsCalm code place
  quiet : {place : ℕ} (i : Instr) → slice_get code.instructions place ≡ Some i → is_quiet i ≡ true → IsCalm code (place + 1) →
      IsCalm code place
  jumps : {place : ℕ} (target : ℕ) → slice_get code.instructions place ≡ Some (Jump target) → IsCalm code target → IsCalm code place
  forks : {place : ℕ} (r target : ℕ) → slice_get code.instructions place ≡ Some (JumpIfZero r target) → IsCalm code (place + 1) →
      IsCalm code target → IsCalm code place

abbrev pub QuietBeforeCalm : Type 0
QuietBeforeCalm = (t : Run) (is : List Instr) (place : ℕ) → Stand t place is → AllByRecursion (λ (i : Instr). is_quiet i ≡ true) is →
    IsCalm t.code (place + length is) → IsCalm t.code place

-- there is no run in that, and it tells
abbrev pub CalmPlacesTell : Type 0
CalmPlacesTell = (t : Run) → IsWellFormed t.code → (place : ℕ) → IsCalm t.code place → Tells t place
