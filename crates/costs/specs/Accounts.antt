-- What is counted of a run and of each of its lines, time step by time step, and event by event.
use Rattle.std.specs.Prelude.{ℕ, List, [], ◌∷◌, if◌then◌else◌, nat_eq, nat_lt}
use Rattle.exchange_bound.specs.Events.{Event}
use Rattle.costs.specs.declared.time_step.TimeStep.{TimeStep}
use Rattle.costs.specs.Spending.{Spending, spend_all, unspent}
use Rattle.costs.specs.Totals.{Totals, added, nothing}

-- what was counted so far of all time steps, and of those of each line; and what was spent on exchanges
pub record Accounts : Type 0 where
  pub all : Totals
  pub lines : ℕ → Totals
  pub exchanges : Spending

-- before the first time step
abbrev pub opened : Accounts
opened = record { all = nothing; lines = λ l. nothing; exchanges = unspent }

-- a time step counts for the line on which it stands
abbrev pub entered_at : ℕ → TimeStep → Totals → ℕ → Totals
entered_at q s t l = if nat_eq s.line l then added q s t else t

-- one time step more
abbrev pub entered : ℕ → TimeStep → Accounts → Accounts
entered q s a = record { all = added q s a.all; lines = λ l. entered_at q s (a.lines l) l; exchanges = a.exchanges }

abbrev pub entered_all : ℕ → List TimeStep → Accounts → Accounts
entered_all q [] a = a
entered_all q (s ∷ ss) a = entered_all q ss (entered q s a)

-- events that have happened
abbrev pub met_all : List Event → Accounts → Accounts
met_all es a = record { all = a.all; lines = a.lines; exchanges = spend_all es a.exchanges }

-- those of a statement that begins where k have run and the bound is n
abbrev pub begun_at : (n k : ℕ) → List Event → List Event
begun_at n k es = if nat_lt k n then es else []
