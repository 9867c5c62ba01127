-- When one code runs as a longer one: what the registers of the shorter hold of those of the longer at each place, checked instruction by
-- instruction.
use Rattle.std.specs.Prelude.{◌≡◌, ℕ, ◌+◌, ◌<◌, Bool, true, false, ◌&&◌, Option, Some, None, ℤ, slice_get, if◌then◌else◌, ◌⊎◌}
use Rattle.std.specs.Ordering.{int_eq}
use Rattle.std.proofs.Common.{eqb}
use Rattle.superstep_instructions.specs.declared.instr.Side.{Side}
use Rattle.superstep_instructions.specs.declared.instr.Side.TheVariants.{Uniform, Private}
use Rattle.superstep_instructions.specs.declared.instr.Instr.{Instr}
use Rattle.superstep_instructions.specs.declared.instr.Instr.TheVariants.{Set, Copy, Negate, Calculate, Decide, Not, CopyUniform}
use Rattle.superstep_instructions.specs.declared.instr.Instr.TheVariants.{Index}
use Rattle.superstep_instructions.specs.declared.instr.Instr.TheVariants.{Enter, Leave, Mask, Flip, Unmask, Ask, Put, Reply, Vote}
use Rattle.superstep_instructions.specs.declared.instr.Instr.TheVariants.{Print}
use Rattle.superstep_instructions.specs.declared.instr.Instr.TheVariants.{Jump, JumpIfZero}
use Rattle.superstep_instructions.specs.Code.{SuperstepCode}
use Rattle.bsp_verify.specs.Control.{Leads}
use Rattle.tidying.specs.Rows.{Row, Refines, is_none, put_into, asked_into, left_at, in_place, in_both, all_zero}

-- What is known at a place: of the uniform registers, of those of active processors, and of those of the others; and whether all are under
-- no mask.
pub record Rows : Type 0 where
  pub uniform : Row
  pub active : Row
  pub idle : Row
  pub all : Bool

-- What is known at each place; the numbers that some registers hold whenever they are in a row; for each place the register that the
-- other code computes into; and where the place is in the other code.
pub record Certificate : Type 0 where
  pub at : ℕ → Rows
  pub number : Side → ℕ → Option ℤ
  pub into : ℕ → ℕ
  pub moved : ℕ → ℕ

-- ---- the instruction of the other code

abbrev pub by_side : Side → Row → Row → Row
by_side Uniform u a = u
by_side Private u a = a

abbrev pub or_first : Option ℕ → ℕ
or_first None = 0
or_first (Some t) = t

-- the register that holds what s holds
abbrev pub place_of : Side → Row → Row → ℕ → ℕ
place_of side u a s = or_first (by_side side u a s)

-- the instruction that reads the places of what it reads, computes into e, and leads to where its target is
abbrev pub changed : Row → Row → ℕ → (ℕ → ℕ) → Instr → Instr
changed u a e m (Set side d n) = Set side e n
changed u a e m (Copy side d s) = Copy side e (place_of side u a s)
changed u a e m (Negate side d s q) = Negate side e (place_of side u a s) q
changed u a e m (Calculate side o d x y q) = Calculate side o e (place_of side u a x) (place_of side u a y) q
changed u a e m (Decide side o d x y) = Decide side o e (place_of side u a x) (place_of side u a y)
changed u a e m (Not side d s) = Not side e (place_of side u a s)
changed u a e m (CopyUniform d s) = CopyUniform e (place_of Uniform u a s)
changed u a e m (Index d) = Index e
changed u a e m (Enter x y q) = Enter (place_of Uniform u a x) (place_of Uniform u a y) q
changed u a e m (Mask s) = Mask (place_of Private u a s)
changed u a e m (Ask side d c s q) = Ask side d c (place_of side u a s) q
changed u a e m (Put side c s v q) = Put side c (place_of side u a s) (place_of side u a v) q
changed u a e m (Print s) = Print (place_of Uniform u a s)
changed u a e m (Jump target) = Jump (m target)
changed u a e m (JumpIfZero s target) = JumpIfZero (place_of Uniform u a s) (m target)
changed u a e m i = i

-- ---- what it has to know

abbrev pub is_there : Option ℕ → Bool
is_there None = false
is_there (Some t) = true

abbrev pub is_known : Side → Row → Row → ℕ → Bool
is_known side u a s = is_there (by_side side u a s)

abbrev pub is_at : ℕ → Option ℕ → Bool
is_at d None = false
is_at d (Some t) = eqb d t

-- what it reads has a place; the register of a read lies in its place, and has no number of its own on either side
abbrev pub knows : (Side → ℕ → Option ℤ) → Row → Row → Instr → Bool
knows number u a (Copy side d s) = is_known side u a s
knows number u a (Negate side d s q) = is_known side u a s
knows number u a (Calculate side o d x y q) = is_known side u a x && is_known side u a y
knows number u a (Decide side o d x y) = is_known side u a x && is_known side u a y
knows number u a (Not side d s) = is_known side u a s
knows number u a (CopyUniform d s) = is_known Uniform u a s
knows number u a (Enter x y q) = is_known Uniform u a x && is_known Uniform u a y
knows number u a (Mask s) = is_known Private u a s
knows number u a (Ask side d c s q) =
    is_known side u a s && (is_at d (by_side side u a d) && (is_none (number Uniform d) && is_none (number Private d)))
knows number u a (Put side c s v q) = is_known side u a s && is_known side u a v
knows number u a (Print s) = is_known Uniform u a s
knows number u a (JumpIfZero s target) = is_known Uniform u a s
knows number u a i = true

-- ---- what is known behind an instruction that both codes have

-- whether what it gives is that number, where there is one
abbrev pub gives : Option ℤ → Instr → Bool
gives None i = true
gives (Some n) (Set side d value) = int_eq n value
gives (Some n) i = false

-- the register of a side that gets its result
abbrev pub result_of : Side → Instr → Option ℕ
result_of Uniform (Set Uniform d n) = Some d
result_of Uniform (Copy Uniform d s) = Some d
result_of Uniform (Negate Uniform d s q) = Some d
result_of Uniform (Calculate Uniform o d x y q) = Some d
result_of Uniform (Decide Uniform o d x y) = Some d
result_of Uniform (Not Uniform d s) = Some d
result_of Private (Set Private d n) = Some d
result_of Private (Copy Private d s) = Some d
result_of Private (Negate Private d s q) = Some d
result_of Private (Calculate Private o d x y q) = Some d
result_of Private (Decide Private o d x y) = Some d
result_of Private (Not Private d s) = Some d
result_of Private (CopyUniform d s) = Some d
result_of Private (Index d) = Some d
result_of side i = None

abbrev pub resulted : (ℕ → Option ℤ) → ℕ → Instr → Option ℕ → Row → Row
resulted number e i None row = row
resulted number e i (Some d) row = put_into (gives (number d) i) d e row

abbrev pub uniform_then : (Side → ℕ → Option ℤ) → ℕ → Rows → Instr → Row
uniform_then number e rows (Ask Uniform d x s q) = asked_into d rows.uniform
uniform_then number e rows (Vote d) = put_into (is_none (number Uniform d)) d d rows.uniform
uniform_then number e rows Reply = in_place rows.uniform
uniform_then number e rows i = resulted (number Uniform) e i (result_of Uniform i) rows.uniform

abbrev pub active_then : (Side → ℕ → Option ℤ) → ℕ → Rows → Instr → Row
active_then number e rows (Ask Private d x s q) = asked_into d rows.active
active_then number e rows Reply = in_place rows.active
active_then number e rows (Enter x y q) = all_zero (number Private)
active_then number e rows Leave = all_zero (number Private)
active_then number e rows Flip = in_both rows.active rows.idle
active_then number e rows Unmask = in_both rows.active rows.idle
active_then number e rows i = resulted (number Private) e i (result_of Private i) rows.active

abbrev pub idle_then : (Side → ℕ → Option ℤ) → Rows → Instr → Row
idle_then number rows Reply = in_place rows.idle
idle_then number rows (Enter x y q) = all_zero (number Private)
idle_then number rows Leave = all_zero (number Private)
idle_then number rows (Mask s) = in_both rows.active rows.idle
idle_then number rows Flip = in_both rows.active rows.idle
idle_then number rows Unmask = in_both rows.active rows.idle
idle_then number rows i = rows.idle

abbrev pub all_after : Bool → Instr → Bool
all_after all (Enter x y q) = true
all_after all Leave = true
all_after all (Mask s) = false
all_after all Flip = false
all_after all Unmask = false
all_after all i = all

-- Without a mask all are active, and so are those that a mask stops then.
abbrev pub rows_then : (Side → ℕ → Option ℤ) → ℕ → Rows → Instr → Rows
rows_then number e rows i = record {
  uniform = uniform_then number e rows i;
  active = active_then number e rows i;
  idle = if rows.all then active_then number e rows i else idle_then number rows i;
  all = all_after rows.all i;
}

-- ---- what is known behind an instruction that the other code leaves out

abbrev pub holds : Option ℤ → ℤ → Bool
holds None n = false
holds (Some m) n = int_eq m n

-- a register of a side is set to a number that a register holds, or to what a register holds
abbrev pub row_left : Side → (ℕ → Option ℤ) → ℕ → Row → Instr → Row
row_left Uniform number e row (Set Uniform d n) = left_at (is_none (number d) && holds (number e) n) d (row e) row
row_left Uniform number e row (Copy Uniform d s) = left_at (is_none (number d)) d (row s) row
row_left Private number e row (Set Private d n) = left_at (is_none (number d) && holds (number e) n) d (row e) row
row_left Private number e row (Copy Private d s) = left_at (is_none (number d)) d (row s) row
row_left side number e row i = row

abbrev pub may_be_left : Instr → Bool
may_be_left (Set side d n) = true
may_be_left (Copy side d s) = true
may_be_left i = false

abbrev pub rows_without : (Side → ℕ → Option ℤ) → ℕ → Rows → Instr → Rows
rows_without number e rows i = record {
  uniform = row_left Uniform (number Uniform) e rows.uniform i;
  active = row_left Private (number Private) e rows.active i;
  idle = if rows.all then row_left Private (number Private) e rows.active i else rows.idle;
  all = rows.all;
}

-- ---- the check of each place

-- all that is known there is known here
pub record AreRefined (there here : Rows) : Type 0 where
  pub uniform : Refines there.uniform here.uniform
  pub active : Refines there.active here.active
  pub idle : Refines there.idle here.idle
  pub all : there.all ≡ true → here.all ≡ true

-- the other code has the instruction, changed
pub record IsKept (c : Certificate) (short : SuperstepCode) (k : ℕ) (i : Instr) : Type 0 where
  pub knows : knows c.number (c.at k).uniform (c.at k).active i ≡ true
  pub is : slice_get short.instructions (c.moved k) ≡ Some (changed (c.at k).uniform (c.at k).active (c.into k) c.moved i)
  pub next : c.moved (k + 1) ≡ c.moved k + 1
  pub passes : (t : ℕ) → Leads i k t → AreRefined (c.at t) (rows_then c.number (c.into k) (c.at k) i)

-- the other code hasn't got it
pub record IsLeftOut (c : Certificate) (k : ℕ) (i : Instr) : Type 0 where
  pub may : may_be_left i ≡ true
  pub next : c.moved (k + 1) ≡ c.moved k
  pub passes : AreRefined (c.at (k + 1)) (rows_without c.number (c.into k) (c.at k) i)

-- all registers are 0 at the beginning, and there is no mask
abbrev pub opening_rows : Certificate → Rows
opening_rows c = record {
  uniform = all_zero (c.number Uniform);
  active = all_zero (c.number Private);
  idle = all_zero (c.number Private);
  all = true;
}

-- the codes have one header but for the numbers of registers
abbrev pub IsLike : SuperstepCode → SuperstepCode → Type 0
IsLike long short = short ≡ record long {
  uniform_registers = short.uniform_registers;
  private_registers = short.private_registers;
  instructions = short.instructions;
}

-- The shorter code runs as the longer: it has its instructions but for some that set a register, and each reads registers that hold the
-- same.
pub record IsCertified (c : Certificate) (long short : SuperstepCode) : Type 0 where
  pub header : IsLike long short
  pub start : c.moved 0 ≡ 0
  pub opening : AreRefined (c.at 0) (opening_rows c)
  pub each : (k : ℕ) (i : Instr) → slice_get long.instructions k ≡ Some i → IsKept c short k i ⊎ IsLeftOut c k i

-- the check of the places below n
abbrev pub AreRight : Certificate → SuperstepCode → SuperstepCode → ℕ → Type 0
AreRight c long short n = (k : ℕ) (i : Instr) → k < n → slice_get long.instructions k ≡ Some i → IsKept c short k i ⊎ IsLeftOut c k i
