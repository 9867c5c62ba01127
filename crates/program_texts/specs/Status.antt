-- Exit statuses.
use Rattle.std.specs.Prelude.{ℕ}
use Rattle.write_rules.specs.declared.outcome.Outcome.{Outcome}
use Rattle.write_rules.specs.declared.outcome.Outcome.TheVariants as outcome
use Rattle.program_texts.specs.declared.status.Status.{Status}
use Rattle.program_texts.specs.declared.status.Status.TheVariants as status

-- the status of a run
abbrev pub status_of : Outcome → Status
status_of (outcome.Ended output memory) = status.Done
status_of (outcome.Faulted fault output) = status.Faulted
status_of (outcome.GoesOn output) = status.GoesOn

-- its number
abbrev pub code : Status → ℕ
code status.Done = 0
code status.Faulted = 1
code status.Refused = 2
code status.GoesOn = 3
