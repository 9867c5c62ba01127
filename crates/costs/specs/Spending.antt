-- What a run has spent on its exchanges, event by event.
use Rattle.std.specs.Prelude.{ℕ, ◌+◌, List, [], ◌∷◌, Bool, false}
use Rattle.exchange_bound.specs.Events.{Event}
use Rattle.exchange_bound.specs.Bound.{one_if}
use Rattle.exchange_bound.specs.Spent.{held_after, spent_by}

-- how many exchanges, and whether a write is held back
pub record Spending : Type 0 where
  pub count : ℕ
  pub held : Bool

-- before the first event
abbrev pub unspent : Spending
unspent = record { count = 0; held = false }

-- one event more
abbrev pub spend : Event → Spending → Spending
spend e s = record { count = s.count + spent_by e s.held; held = held_after e s.held }

abbrev pub spend_all : List Event → Spending → Spending
spend_all [] s = s
spend_all (e ∷ es) s = spend_all es (spend e s)

-- with one for a write that is still held, and one for the close of the run
abbrev pub closed : Spending → ℕ
closed s = 1 + (s.count + one_if s.held)
