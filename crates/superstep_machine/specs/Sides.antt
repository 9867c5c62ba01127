-- Of which side the reads are that a worker holds.
use Rattle.std.specs.Prelude.{◌≡◌, ℕ, ◌+◌, List, [], ◌∷◌, true, Option, None}
use Rattle.std.specs.List.{AllByRecursion}
use Rattle.superstep_instructions.specs.declared.instr.Side.{Side}
use Rattle.superstep_instructions.specs.declared.instr.Side.TheVariants.{Uniform, Private}
use Rattle.superstep_machine.specs.Parts.{Read, PrivatePart}
use Rattle.superstep_machine.specs.Sending.{cell_at, is_private}

-- a private read has no cell of the uniform part: each processor has its own
abbrev pub IsBySide : Read → Type 0
IsBySide read = is_private read.side ≡ true → read.cell ≡ None

abbrev pub AreBySide : List Read → Type 0
AreBySide = AllByRecursion IsBySide

-- a private read has no cell of the uniform part, and by a uniform read no processor asks
abbrev pub HasOneSide : List PrivatePart → ℕ → Option ℕ → Side → Type 0
HasOneSide own k cell Private = cell ≡ None
HasOneSide own k cell Uniform = AllByRecursion (λ (x : PrivatePart). cell_at k x.asks ≡ None) own

-- read by read from number k on
abbrev pub HaveOneSide : List PrivatePart → ℕ → List Read → Type 0
HaveOneSide own k [] = Unit {0}
HaveOneSide own k (read ∷ rest) = HasOneSide own k read.cell read.side × HaveOneSide own (k + 1) rest
