-- What each moment of a run has to do with its exchanges.
use Rattle.std.specs.Prelude.{ℕ, ◌+◌, max, List, [], ◌∷◌, length, false, Some, None}
use Rattle.exchange_bound.specs.Events.{Event, Runs, Cut, Votes, is_shared, is_step_shared, levels, reads}
use Rattle.exchange_bound.specs.Events.{step_target_levels, step_target_reads, target_levels, target_reads}
use Rattle.pram_meaning.specs.Moments.{Action, Assigns, Prints, Turns, Chooses, Bounds, Sets, Ranges}
use Rattle.pram_meaning.specs.Moments.{StepAction, AssignsOn, TurnsOn, ChoosesOn, Moment, Alone, Together, Closed}

-- the events of a statement outside pardo
abbrev pub alone_events : Action → List Event
alone_events (Assigns x e) = Runs (max (target_levels x) (levels e)) (is_shared x) None (target_reads x + reads e) ∷ []
alone_events (Prints e) = Runs (levels e) false None (reads e) ∷ []
alone_events (Turns e) = Cut ∷ Runs (levels e) false None (reads e) ∷ Cut ∷ []
alone_events (Chooses e) = Runs (levels e) false None (reads e) ∷ Cut ∷ []
alone_events (Bounds e f) = Runs (max (levels e) (levels f)) false None (reads e + reads f) ∷ Cut ∷ []
alone_events (Sets x) = Runs 0 false None 0 ∷ []
alone_events (Ranges e f) = Runs (max (levels e) (levels f)) false None (reads e + reads f) ∷ []

-- those of a statement inside pardo that k processors execute, or nobody
abbrev pub set_events : (k : ℕ) → StepAction → List Event
set_events k (AssignsOn x e) =
    Runs (max (step_target_levels x) (levels e)) (is_step_shared x) (Some k) (step_target_reads x + reads e) ∷ []
set_events k (TurnsOn e) = Cut ∷ Runs (levels e) false (Some k) (reads e) ∷ Cut ∷ Votes ∷ []
set_events k (ChoosesOn e) = Runs (levels e) false (Some k) (reads e) ∷ []

-- a statement has them also where it faults
abbrev pub events_at : Moment → List Event
events_at (Alone here act before a after) = alone_events act
events_at (Together here act before xs k after) = set_events (length xs) act
events_at Closed = Cut ∷ []
