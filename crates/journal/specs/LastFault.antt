-- The fault with which a run ends.
use Rattle.std.specs.Prelude.{ℕ, ℤ, List, [], ◌∷◌, Option, Some, None}
use Rattle.pram_check.specs.Checked.{Checked}
use Rattle.journal.specs.Entries.{Entry, Faulting, Ran}
use Rattle.journal.specs.RunEntries.{run_entries}

-- the last of some entries where that is a fault; behind none of them the one that was there
abbrev pub fault_behind : Option Entry → List Entry → Option Entry
fault_behind before [] = before
fault_behind before (Ran here acts changed variables locals items ∷ es) = fault_behind None es
fault_behind before (Faulting here fault cause acts met locals ∷ es) = fault_behind (Some (Faulting here fault cause acts met locals)) es

-- the entry of the fault with which a program's run on an input ends, within n statements
abbrev pub run_fault : Checked → List ℤ → ℕ → Option Entry
run_fault p input n = fault_behind None (run_entries p input n)
