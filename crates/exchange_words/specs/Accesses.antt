-- The words that the accesses of a run take, instruction by instruction on one memory.
use Rattle.std.specs.Prelude.{ℕ, zero, suc, ◌+◌, ◌*◌, List, length, Option, Some, None, slice_get, ℤ}
use Rattle.std.specs.List.{filter}
use Rattle.pram_model.specs.declared.rule.Rule.{Rule}
use Rattle.pram_model.specs.declared.rule.Rule.TheVariants.{Sum}
use Rattle.superstep_instructions.specs.declared.instr.Side.TheVariants.{Uniform, Private}
use Rattle.superstep_instructions.specs.declared.instr.Instr.{Instr}
use Rattle.superstep_instructions.specs.declared.instr.Instr.TheVariants.{Ask, Put}
use Rattle.superstep_instructions.specs.Code.{SuperstepCode}
use Rattle.superstep_machine.specs.Run.{Way, On}
use Rattle.superstep_machine.specs.Steps.{is_active}
use Rattle.flat_machine.specs.Flat.{Flat, range}
use Rattle.flat_machine.specs.ByExchanges.{State, opening}
use Rattle.flat_machine.specs.ByInstructions.{step, everywhere}

-- the words of a write: the cell, the writer and the value, which has two under the rule sum
abbrev pub of_write : Rule → ℕ
of_write Sum = 4
of_write rule = 3

-- how many processors of the range are active
abbrev pub active : Flat → ℕ
active f = length (filter (λ v. is_active (f.own v)) (range f))

-- The words of an instruction's accesses with p workers: for a read the ask and the answer, of each worker where it is uniform, else of
-- each active processor; for a write those of one, or of each active processor.
abbrev pub words_by : Rule → ℕ → Instr → Flat → ℕ
words_by rule p (Ask Uniform d c s q) f = 2 * p
words_by rule p (Ask Private d c s q) f = 2 * active f
words_by rule p (Put Uniform c s v q) f = of_write rule
words_by rule p (Put Private c s v q) f = of_write rule * active f
words_by rule p i f = 0

abbrev pub words_at : Rule → ℕ → Option Instr → Flat → ℕ
words_at rule p None f = 0
words_at rule p (Some i) f = words_by rule p i f

-- those of the instruction at the place of a state
abbrev pub words_here : SuperstepCode → ℕ → State → Way → ℕ
words_here code p s On = words_at code.rule p (slice_get code.instructions s.place) s.flat
words_here code p s way = 0

-- and of n instructions, of a run in which at most `bound` statements may begin
abbrev pub words_within : SuperstepCode → (bound p n : ℕ) → State → ℕ
words_within code bound p zero s = 0
words_within code bound p (suc n) s = words_here code p s s.way + words_within code bound p n (step code bound everywhere s)

-- The words of the accesses of the code's run from an input. It is over within so many instructions where the code is well formed.
abbrev pub words_of : SuperstepCode → (bound p : ℕ) → List ℤ → ℕ
words_of code bound p input = words_within code bound p ((bound + 1) * length code.instructions) (opening input)
