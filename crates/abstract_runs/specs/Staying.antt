-- Statements behind which all processors are as they were.
use Rattle.std.specs.Prelude.{◌≡◌, ℕ, List}
use Rattle.pram_check.specs.Checked.{Checked}
use Rattle.pram_names.specs.declared.body.Step.{Step}
use Rattle.pram_meaning.specs.Bounded.{perform_list_on, perform_on}
use Rattle.pram_meaning.specs.Store.{State}
use Rattle.abstract_runs.specs.Onward.{Onward}

-- the processors are those of before
abbrev pub AsBefore : {A : Type 0} → State → A → State → Type 0
AsBefore before a m = m.team ≡ before.team

-- the statement leaves each set's processors as they were, in each state from which the run goes on
abbrev pub IsStaying : Step → Type 0
IsStaying s = (p : Checked) (n : ℕ) (vs : List ℕ) (m : State) → Onward (AsBefore m) (perform_on p n s vs m)

-- the statements in order do
abbrev pub AreStaying : List Step → Type 0
AreStaying ss = (p : Checked) (n : ℕ) (vs : List ℕ) (m : State) → Onward (AsBefore m) (perform_list_on p n ss vs m)
