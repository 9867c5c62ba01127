-- Entries that are taken for a picture, one after the other.
use Rattle.std.specs.Prelude.{ℕ, ℤ, Bool, List, ◌++◌}
use Rattle.journal.specs.Entries.{Entry}
use Rattle.pictures.specs.Flows.Taken.{HasTaken}
use Rattle.pictures.specs.declared.flows.flow.Flow.{Flow}

-- these entries have come: behind any others, whatever the values before these were
pub record Takes (aside : Entry → List Bool) (old new : Flow) (es : List Entry) : Type 0 where
  pub taken : (opening : List ℤ) (from to : ℕ) (before : List Entry) → HasTaken aside opening from to before old →
      HasTaken aside opening from to (before ++ es) new
