-- What is done in a statement.
use Rattle.std.specs.Prelude.{List}
use Rattle.journal.specs.Entries.{Act, Entry, Ran, Faulting}

abbrev pub acts_in : Entry → List Act
acts_in (Ran here acts cells variables locals items) = acts
acts_in (Faulting here fault cause acts met locals) = acts
