-- That a run of code goes on as a part of its program does, and with which exchanges.
use Rattle.std.specs.Prelude.{◌≡◌, ℕ, ◌+◌, List, Bool, ⊤}
use Rattle.write_rules.specs.Verdict.{Faulted, GoesOn}
use Rattle.pram_meaning.specs.Store.{State}
use Rattle.pram_meaning.specs.Bounded.{Done, Goes, Stops, Reaches}
use Rattle.flat_machine.specs.ByInstructions.{IsFlatOutcome}
use Rattle.flat_stretches.specs.Along.{Run}
use Rattle.flat_stretches.specs.Closes.{ComesOut}
use Rattle.exchange_bound.specs.Events.{Event}
use Rattle.exchange_bound.specs.Bound.{one_if}
use Rattle.exchange_bound.specs.Spent.{held_behind}
use Rattle.compiled_meaning.specs.Paid.{spent}

-- what these events spend, with one exchange for a write that is held behind them
abbrev pub in_all : Run → List Event → Bool → ℕ
in_all t es held = spent t es held + one_if (held_behind es held)

-- Where the program goes on the run does (`goes` says to what); where it stops, that fault is the run's outcome, with the same output; and
-- where it reaches the bound, so does the run, with no more exchanges from here on than these events have, and one for the close.
abbrev pub Follows : Run → (before : ℕ) → (held : Bool) → List Event → (State → Type 0) → Done → Type 0
Follows t before held es goes (Goes u m) = goes m
Follows t before held es goes (Stops fault out) = IsFlatOutcome t.code t.input t.bound (Faulted fault out)
Follows t before held es goes (Reaches out) = ComesOut t (GoesOn out) (before + in_all t es held + 1)

-- where the program goes on, a write is held behind these events as said
abbrev pub HoldsBehind : Bool → List Event → Bool → Done → Type 0
HoldsBehind held es left (Goes u m) = held_behind es held ≡ left
HoldsBehind held es left (Stops fault out) = ⊤
HoldsBehind held es left (Reaches out) = ⊤
