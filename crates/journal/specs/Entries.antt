-- What is told of the statements of a run: entry k is of the k-th statement that ran, counted from 1.
use Rattle.std.specs.Prelude.{ℕ, List, ℤ, Option, map}
use Rattle.write_rules.specs.declared.fault.Fault.{Fault}
use Rattle.journal.specs.declared.act as rust_act
use Rattle.pram_tokens.specs.declared.token.Location.{Location}
use Rattle.journal.specs.declared.change.Change.{Change}
use Rattle.journal.specs.declared.local_change.LocalChange.{LocalChange}
use Rattle.journal.specs.declared.own_locals as rust_locals
use Rattle.journal.specs.declared.reading.Reading.{Reading}
use Rattle.journal.specs.declared.entry as rust_entry
use Rattle.journal.specs.declared.entry.Entry.TheVariants as variant
use Rattle.journal.specs.Causes.{Cause, known_cause}

-- what one processor did in a statement: its index, or none of the one outside pardo; the cells that it read, in order, one for each read,
-- and the cell that it wrote; the position of each read with what it gave, and what it wrote
pub record Act : Type 0 where
  pub processor : Option ℤ
  pub reads : List ℕ
  pub write : Option ℕ
  pub readings : List Reading
  pub written : Option ℤ

-- what the locals of a processor hold, in the order of declaration
pub record OwnLocals : Type 0 where
  pub processor : ℤ
  pub values : List ℤ

-- A statement that ran: where it stands, what each of those did that executed it, the cells, the uniform variables and the locals of
-- processors whose value differs behind it, and what it printed. Or one that faulted: where it stands, its fault and its cause, what each
-- did before its position, the indices of those that met at its cell, and the locals of these, or of the one that faulted.
pub data Entry : Type 0 where
  Ran : (here : Location) → List Act → (cells variables : List Change) → (locals : List LocalChange) → (printed : List ℤ) → Entry
  Faulting : (here : Location) → Fault → Option Cause → List Act → (met : List ℤ) → (locals : List OwnLocals) → Entry

abbrev pub act_is : rust_act.Act.Act → Act
act_is a = record {
  processor = a.processor;
  reads = a.reads.items;
  write = a.write;
  readings = a.readings.items;
  written = a.written;
}

abbrev pub own_is : rust_locals.OwnLocals.OwnLocals → OwnLocals
own_is l = record { processor = l.processor; values = l.values.items }

abbrev pub entry_is : rust_entry.Entry.Entry → Entry
entry_is (variant.Ran here acts cells variables locals printed) =
    Ran here (map act_is acts.items) cells.items variables.items locals.items printed.items
entry_is (variant.Faulted here fault cause acts met locals) =
    Faulting here fault (known_cause cause) (map act_is acts.items) met.items (map own_is locals.items)
