-- What a statement evaluates.
use Rattle.std.specs.Prelude.{ℕ, ◌+◌, Bool, true, ◌&&◌, not, List, [], ◌∷◌, ◌++◌}
use Rattle.superstep_instructions.specs.declared.instr.Side.{Side}
use Rattle.superstep_instructions.specs.declared.instr.Instr.{Instr}
use Rattle.superstep_instructions.specs.declared.instr.Instr.TheVariants.{Put}
use Rattle.plain_form.specs.Formulas.{Formula, Zero, Pair, formula_of, reads, positions}
use Rattle.plain_form.specs.Regions.{place}
use Rattle.plain_form.specs.Shapes.{any_level, flush, still, waits, counted}
use Rattle.plain_form.specs.Groups.{stack, value_at}
use Rattle.straight_lowering.specs.declared.values.Operands.{Operands}
use Rattle.straight_lowering.specs.declared.values.Operands.TheVariants.{Value, ForCell, Both}

-- as one formula
abbrev pub formula : Operands → Formula
formula (Value e) = formula_of e.now
formula (ForCell e) = Pair Zero (formula_of e.now)
formula (Both e f) = Pair (formula_of e.now) (formula_of f.now)

-- the register of the second value, if there is one
abbrev pub second_place : Side → Operands → (t b : ℕ) → ℕ
second_place s (Value e) t b = 0
second_place s (ForCell e) t b = place s (formula_of e.now) (t + reads Zero) (b + 1)
second_place s (Both e f) t b = place s (formula_of f.now) (t + reads (formula_of e.now)) (b + 1)

-- whether a write is held behind so many levels of reads
abbrev pub held_behind : Bool → ℕ → Bool
held_behind held n = held && not (any_level n)

-- whether a write waits for so many levels of reads to be sent
abbrev pub waiting : Bool → ℕ → Bool
waiting held n = held && any_level n

-- a write of the second value to the cell at the first
abbrev pub writes_of : Bool → ℕ → Side → ℕ → ℕ → Operands → List Instr
writes_of held line s base entry o =
    flush (still held (formula o)) ++ counted true (waits held (formula o)) line s base (formula o)
    ++ Put s entry (value_at s base (formula o)) (second_place s o base (stack base (formula o))) (positions (formula o) + 1) ∷ []
