-- A run that is told, beside what it costs: each entry as a time step.
use Rattle.std.specs.Prelude.{◌≡◌, ℕ, List, ℤ, length, map}
use Rattle.std.specs.List.{sum_by}
use Rattle.pram_check.specs.Checked.{Checked}
use Rattle.journal.specs.Entries.{Act, Entry, Faulting, Ran}
use Rattle.journal.specs.RunEntries.{run_entries}
use Rattle.costs.specs.declared.time_step.TimeStep.{TimeStep}
use Rattle.costs.specs.Steps.{acting, run_steps, writes_to}

-- what one processor reads and writes
abbrev pub act_reads : Act → ℕ
act_reads a = length a.reads

abbrev pub act_writes : Act → ℕ
act_writes a = writes_to a.write

-- the line, the processors and the accesses of an entry; those of a statement that faults don't count
abbrev pub step_of : Entry → TimeStep
step_of (Ran here acts cells variables locals items) =
    record { line = here.line; processors = length acts; reads = sum_by act_reads acts; writes = sum_by act_writes acts }
step_of (Faulting here fault cause acts met locals) = acting fault.line (length acts)

-- The time steps by which a run's cost is counted are its entries, one by one: so its time is their number, and its work, its width, its
-- accesses and the costs of each line are theirs.
abbrev pub EntriesAreTimeSteps : Type 0
EntriesAreTimeSteps = (p : Checked) (input : List ℤ) (n : ℕ) → map step_of (run_entries p input n) ≡ run_steps p input n
