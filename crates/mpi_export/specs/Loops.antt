-- Which instructions stand in one loop over the active processors, and where their registers lie.
use Rattle.std.specs.Prelude.{ℕ, ◌+◌, List, [], ◌∷◌, ◌++◌, Bool, true, false, ◌&&◌, ◌||◌, not, Option, Some, None}
use Rattle.std.specs.Prelude.{if◌then◌else◌}
use Rattle.std.specs.List.{list_any}
use Rattle.std.proofs.Common.{eqb}
use Rattle.pram_model.specs.declared.rule.Rule.{Rule}
use Rattle.pram_model.specs.declared.rule.Rule.TheVariants as rule
use Rattle.superstep_instructions.specs.declared.instr.Instr.{Instr}
use Rattle.superstep_instructions.specs.declared.instr.Instr.TheVariants.{Set, Copy, Negate, Calculate, Decide, Not, CopyUniform, Index}
use Rattle.superstep_instructions.specs.declared.instr.Instr.TheVariants.{Enter, Mask, Ask, Put, Send, Reply, Jump, JumpIfZero}
use Rattle.superstep_instructions.specs.declared.instr.Side.{Side}
use Rattle.superstep_instructions.specs.declared.instr.Side.TheVariants.{Uniform, Private}
use Rattle.superstep_instructions.specs.Code.{SuperstepCode}
use Rattle.mpi_export.specs.declared.parts.Part.{Part}
use Rattle.mpi_export.specs.declared.row.Row.{Row}
use Rattle.mpi_export.specs.declared.parts.Part.TheVariants.{Number, OfAll, OfEach, Into}
use Rattle.mpi_export.specs.Parts.{parts_of}

-- ---- instructions

abbrev pub is_private : Side → Bool
is_private Uniform = false
is_private Private = true

-- an instruction that each active processor does
abbrev pub is_of_each : Instr → Bool
is_of_each (Set side d n) = is_private side
is_of_each (Copy side d s) = is_private side
is_of_each (Negate side d s p) = is_private side
is_of_each (Calculate side o d a b p) = is_private side
is_of_each (Decide side o d a b) = is_private side
is_of_each (Not side d s) = is_private side
is_of_each (CopyUniform d s) = true
is_of_each (Index d) = true
is_of_each (Mask s) = true
is_of_each (Ask side d c s p) = is_private side
is_of_each (Put side c s v p) = is_private side
is_of_each i = false

-- with one memory nothing is left of an exchange, so it may stand in a loop
abbrev pub may_stand : Instr → Bool
may_stand Send = true
may_stand Reply = true
may_stand i = is_of_each i

abbrev pub is_exclusive : Rule → Bool
is_exclusive rule.Erew = true
is_exclusive r = false

-- an instruction whose loop ends behind it: what it leaves of all processors is looked at then
abbrev pub ends_loop : Rule → Instr → Bool
ends_loop r (Mask s) = true
ends_loop r (Put side c s v p) = is_private side
ends_loop r (Ask side d c s p) = is_private side && is_exclusive r
ends_loop r i = false

abbrev pub target_of : Instr → Option ℕ
target_of (Jump target) = Some target
target_of (JumpIfZero s target) = Some target
target_of i = None

abbrev pub is_at : ℕ → Option ℕ → Bool
is_at t None = false
is_at t (Some target) = eqb target t

abbrev pub jumps_to : ℕ → Instr → Bool
jumps_to t i = is_at t (target_of i)

-- ---- loops

-- whether a loop is open, and the registers that were set in it
pub record Loop : Type 0 where
  pub is_open : Bool
  pub set : List ℕ

abbrev pub no_loop : Loop
no_loop = record { is_open = false; set = [] }

abbrev pub is_in : ℕ → List ℕ → Bool
is_in r set = list_any (λ s. eqb s r) set

-- whether an instruction stands in the loop that is open, since nothing jumps to it
abbrev pub goes_on : Bool → Loop → Instr → Bool
goes_on is_target l i = l.is_open && (not is_target && may_stand i)

-- the loop that an instruction stands in
abbrev pub begun : Bool → Loop → Instr → Loop
begun is_target l i = if goes_on is_target l i then l else record { is_open = is_of_each i; set = [] }

-- the private register that gets a result
abbrev pub result_of : List Part → Option ℕ
result_of (Into d ∷ parts) = Some d
result_of parts = None

abbrev pub with_register : ℕ → List ℕ → List ℕ
with_register d set = if is_in d set then set else set ++ (d ∷ [])

abbrev pub with_result : Option ℕ → List ℕ → List ℕ
with_result None set = set
with_result (Some d) set = with_register d set

-- the loop behind an instruction
abbrev pub passed : Rule → Loop → Instr → Loop
passed r l i = record { is_open = l.is_open && not (ends_loop r i); set = with_result (result_of (parts_of i)) l.set }

-- ---- registers

abbrev pub reads : ℕ → List Part → Bool
reads r [] = false
reads r (OfEach s ∷ parts) = eqb s r || reads r parts
reads r (part ∷ parts) = reads r parts

-- whether some loop, from an instruction on, reads a register that it hasn't set
abbrev pub takes_over : (ℕ → Bool) → Rule → Loop → ℕ → List Instr → ℕ → Bool
takes_over target rule l k [] r = false
takes_over target rule l k (i ∷ is) r =
    let here = begun (target k) l i in
    (reads r (parts_of i) && not (is_in r here.set)) || takes_over target rule (passed rule here i) (k + 1) is r

abbrev pub is_enter : Instr → Bool
is_enter (Enter a b p) = true
is_enter i = false

-- an instruction that gives register 1 the processor's index
abbrev pub gives_index : Instr → Bool
gives_index (Index d) = eqb d 1
gives_index i = false

abbrev pub is_one : Option ℕ → Bool
is_one None = false
is_one (Some d) = eqb d 1

-- whether register 1 is the index from each `enter` on: it gets that behind each, and nothing else
abbrev pub keeps_index : Bool → List Instr → Bool
keeps_index entered [] = not entered
keeps_index entered (i ∷ is) = (gives_index i || not (entered || is_one (result_of (parts_of i)))) && keeps_index (is_enter i) is

-- ---- of code

-- whether an instruction jumps to a place
abbrev pub is_target : SuperstepCode → ℕ → Bool
is_target code t = list_any (jumps_to t) code.instructions

abbrev pub has_index : SuperstepCode → Bool
has_index code = keeps_index false code.instructions

-- whether some loop takes over what one before it left in a register
abbrev pub is_taken_over : SuperstepCode → ℕ → Bool
is_taken_over code r = takes_over (is_target code) code.rule no_loop 0 code.instructions r

-- such a register has a column, unless it is the index
abbrev pub has_column : SuperstepCode → ℕ → Bool
has_column code r = not (has_index code && eqb r 1) && is_taken_over code r

-- ---- instructions with what stands before them

abbrev pub is_fresh : Option ℕ → List ℕ → Bool
is_fresh None set = false
is_fresh (Some d) set = not (is_in d set)

-- whether it ends the loop before it, is jumped to, begins a loop, and sets a register that its loop hasn't set
abbrev pub row_of : Bool → Loop → Instr → Row
row_of target l i = record {
  instr = i;
  ends = l.is_open && not (goes_on target l i);
  target = target;
  begins = is_of_each i && not (goes_on target l i);
  fresh = is_fresh (result_of (parts_of i)) (begun target l i).set;
}

abbrev pub rows_from : (ℕ → Bool) → Rule → Loop → ℕ → List Instr → List Row
rows_from target rule l k [] = []
rows_from target rule l k (i ∷ is) = row_of (target k) l i ∷ rows_from target rule (passed rule (begun (target k) l i) i) (k + 1) is

abbrev pub rows_of : SuperstepCode → List Row
rows_of code = rows_from (is_target code) code.rule no_loop 0 code.instructions
