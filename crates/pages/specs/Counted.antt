-- The numbers of an entry as words of 64 bits, which all are that a program makes.
use Rattle.std.specs.Prelude.{◌<◌, ◌^◌, ℕ, All, Option, Some, None, length, ⊤}
use Rattle.journal.specs.declared.act as act
use Rattle.journal.specs.declared.cause as cause
use Rattle.journal.specs.declared.cause.Cause.TheVariants as why
use Rattle.journal.specs.declared.entry as entry
use Rattle.journal.specs.declared.entry.Entry.TheVariants as variant

abbrev pub IsWord : ℕ → Type 0
IsWord n = n < 2 ^ 64

-- the position of each read
abbrev pub HasWords : act.Act.Act → Type 0
HasWords a = All (λ r. IsWord r.position) a.readings.items

-- of a cause how many processors there may be, if it says that
abbrev pub IsCountedCause : Option cause.Cause.Cause → Type 0
IsCountedCause None = ⊤
IsCountedCause (Some (why.Between left operator right)) = ⊤
IsCountedCause (Some (why.Before operator operand)) = ⊤
IsCountedCause (Some (why.Beyond e subscript)) = ⊤
IsCountedCause (Some (why.Wide low high procs)) = IsWord procs
IsCountedCause (Some why.Meeting) = ⊤
IsCountedCause (Some (why.Writing writes)) = ⊤

-- of an entry the line, how many acted, the positions, and the numbers of the variables
abbrev pub IsCounted : entry.Entry.Entry → Type 0
IsCounted (variant.Ran here acts cells variables locals printed) =
    IsWord here.line × IsWord (length acts.items) × All HasWords acts.items × All (λ d. IsWord d.cell) variables.items
IsCounted (variant.Faulted here fault why acts met locals) = IsWord fault.line × IsCountedCause why × All HasWords acts.items
