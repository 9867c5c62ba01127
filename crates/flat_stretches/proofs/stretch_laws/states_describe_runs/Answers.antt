use Rattle.flat_stretches.proofs.Described.{places_are_as_said, judged_are_fine, what_stands_is_at, folds_hold_reads}
use Rattle.flat_stretches.proofs.stretch_laws.states_describe_runs.Goals as goal

pub returns : goal.returns
returns c = record { places = places_are_as_said; judged = judged_are_fine; there = what_stands_is_at; reads = folds_hold_reads }
