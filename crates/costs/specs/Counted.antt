-- What a whole run that is counted comes to.
use Rattle.std.specs.Prelude.{ℕ, List, ℤ}
use Rattle.pram_check.specs.Checked.{Checked}
use Rattle.exchange_bound.specs.Events.{events_of}
use Rattle.costs.specs.Steps.{run_steps}
use Rattle.costs.specs.Accounts.{Accounts, entered_all, met_all, opened}

-- what is counted of a program's run on an input, within at most n statements, where rounds are those on q processors
abbrev pub counted : Checked → List ℤ → (n q : ℕ) → Accounts
counted p input n q = entered_all q (run_steps p input n) (met_all (events_of p input n) opened)
